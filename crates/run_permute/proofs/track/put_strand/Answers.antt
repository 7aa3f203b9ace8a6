use Rattle.std.proofs.Common.{◌≡◌, ◌<◌, List, length, sym, ap, ◌∙◌, subst}
use Rattle.std.specs.Vec.{with_items}
use Rattle.cell_machine.proofs.AllTwo.{whole}
use Rattle.run_permute.specs.Tracks.{IsPut}
use Rattle.run_permute.specs.declared.block.Block.{Block}
use Rattle.run_permute.proofs.Added.{put-new}
use Rattle.run_permute.proofs.track.put_strand.Goals as goal

pub put_last-requires : goal.put_last-requires
put_last-requires c =
    subst (λ (bs : List Block). 0 < length bs) (c.deref.ensures.value ∙ sym c.as_mut_slice.ensures.value) (c.has_room.ensures c.if-has_room.true)

pub returns-then-has_room : goal.returns-then-has_room
returns-then-has_room c =
    let old = c.args.blocks.now in
    let ws = c.put_last.new.blocks in
    let long = c.put_last.ensures.long ∙ ap length c.as_mut_slice.ensures.value in
    let same : (with_items old ws).items ≡ ws = whole old.len ws old.items (old.ok.0 ∙ sym long) in
    subst (λ (bs : List Block). IsPut c.args.strand old.items bs) (sym same) (subst (λ (bs : List Block). IsPut c.args.strand bs ws) c.as_mut_slice.ensures.value c.in_ok-put_last.ensures.put)

pub returns : goal.returns
returns c =
    subst (IsPut c.args.strand c.args.blocks.now.items) (sym c.in_ok-push.ensures.items) (put-new c.args.blocks.now.items c.args.strand c.in_ok-block.block c.in_ok-block.ensures.strands c.in_ok-block.ensures.bounded)
