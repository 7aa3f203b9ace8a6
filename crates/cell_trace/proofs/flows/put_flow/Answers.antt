use Rattle.cell_machine.specs.Run.{state_of}
use Rattle.cell_trace.proofs.Lemmas.{on_ok, of_spe, held_of, flow_written}
use Rattle.cell_trace.proofs.flows.put_flow.Goals as goal

pub returns : goal.returns
returns c =
    on_ok c.put_back.result _ _ (λ wrote M P at there.
    flow_written c.args.out.now.items c.put_front.new.out.items c.put_reserved.new.out.items c.put_back.new.out.items M.memory c.args.spe P c.line_reserved.result c.line_held.result
    (c.in_ok-put_front.ensures M P at there) c.in_ok-put_reserved.ensures (of_spe (state_of c.args.m.now) c.args.spe M P _ at there c.line_reserved.ensures)
    (held_of (state_of c.args.m.now) c.args.spe M P c.line_held.result at there c.line_held.ensures) (wrote M P at there))
    c.put_back.ensures
