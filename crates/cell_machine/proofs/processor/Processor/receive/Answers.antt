use Rattle.std.proofs.Common.{◌<◌, ◌==◌, ◌++◌, ◌∷◌, [], length, arith, ap, sym, refl, ◌∙◌}
use Rattle.cell_machine.proofs.HostGives.{sent-full, sent-gives, put-room, put-full}
use Rattle.cell_machine.proofs.processor.Processor.receive.Goals as goal

pub returns-then-is_err-clause-made : goal.returns-then-is_err-clause-made
returns-then-is_err-clause-made c = λ P shows still. sent-full P c.args.value _ (ap length shows.inbound ∙ put-full c.put.result c.args.self.now.inbound 4 (sym c.is_err.ensures.value ∙ c.if-is_err.true) c.put.ensures.full)

pub returns-clause-made : goal.returns-clause-made
returns-clause-made c = λ P shows still.
    let took = put-room c.put.result c.args.self.now.inbound c.put.new.self c.args.value 4 (sym c.is_err.ensures.value ∙ c.if-is_err.false) c.put.ensures.variant c.put.ensures.ok in
    let room : length P.inbound < 4 = let l = took.0 in let e = ap length shows.inbound in omega arith in
    let Q = record P { inbound = P.inbound ++ c.args.value ∷ [] } in
    sent-gives P c.args.value _ _ (c.len-is_first.result == 0) still room refl (ap (λ n. n == 0) (c.len-is_first.ensures.count ∙ ap length (sym shows.inbound))) (c.raise_if.ensures Q (record { status = shows.status; pc = shows.pc; registers = shows.registers; store = shows.store; inbound = ap (λ xs. xs ++ c.args.value ∷ []) shows.inbound ∙ sym took.1; outbound = shows.outbound; interrupt = shows.interrupt; channels = shows.channels; tags = shows.tags; signals = shows.signals; events = shows.events; queue = shows.queue }))
