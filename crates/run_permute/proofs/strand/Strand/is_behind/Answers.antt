use Rattle.std.proofs.Common.{◌<◌, ◌∷◌, get_or, length, sym, subst, arith}
use Rattle.std.proofs.lemmas.Option.{slice_get-get_or}
use Rattle.reorder_laws.specs.OrderedLaws.{IsOrdered}
use Rattle.run_permute.specs.Tracks.{places}
use Rattle.run_permute.proofs.Ends.{all-from}
use Rattle.run_permute.proofs.strand.Strand.is_behind.Goals as goal

pub is_before-requires : goal.is_before-requires
is_before-requires g c =
    let s = c.args.self.now in
    let last = get_or (s.first ∷ s.rest.items) (length s.rest.items) 0 in
    (c.requires.0, subst (λ k. k < g.here.place) (sym c.last.ensures) (c.requires.1.below (length s.rest.items) last (slice_get-get_or (places s) (length s.rest.items) 0 (omega arith))))

pub returns : goal.returns
returns g c = λ t.
    let s = c.args.self.now in
    all-from g.here.run g.here.place s.first s.rest.items c.requires.1 (subst (λ k. IsOrdered g.here.run k g.here.place) c.last.ensures (c.is_before.ensures.0 t))
