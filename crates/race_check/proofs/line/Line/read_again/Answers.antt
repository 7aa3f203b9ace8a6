use Rattle.std.proofs.Common.{rules, arith, ◌≡◌, ◌<◌, List, [], ◌∷◌, None, length, get_or, refl, sym, subst}
use Rattle.race_check.specs.Walks.{IsOrdered}
use Rattle.race_check.specs.declared.crowd.Crowd.{Crowd}
use Rattle.race_check.specs.Entries.{HasSameBytes}
use Rattle.race_check.specs.Crowds.{IsSafe, Tells}
use Rattle.race_check.proofs.CrowdLaws.{joined_at, taken_first, tells_none}
use Rattle.race_check.proofs.LineVisits.{read}
use Rattle.race_check.proofs.StackLaws.{thinned_none}
use Rattle.race_check.proofs.line.Line.read_again.Goals as goal

none_of : (crowds : List Crowd) → length crowds ≡ 0 → crowds ≡ []
none_of [] e = refl
none_of (crowd ∷ crowds) e = absurd (omega arith)

pub returns-clause-read : goal.returns-clause-read
returns-clause-read c = λ t.
    let before = IsOrdered c.args.walk.now.machine in
    let new = c.args.new.now in
    let reads = c.args.self.now.reads.items in
    let near = c.args.self.now.near in
    let old = c.index_mut.result.now in
    let value : old ≡ get_or reads near old = c.index_mut.ensures.value in
    let same = c.as_slice.ensures.value in
    let low : near < length reads = subst (λ xs. near < length xs) same (c.if-not-is_again.ensures.inside refl) in
    let bytes : HasSameBytes old.entry new = subst (λ (k : Crowd). HasSameBytes k.entry new) (sym value) (subst (λ (xs : List Crowd). HasSameBytes (get_or xs near old).entry new) same (c.if-not-is_again.ensures.same refl old)) in
    let safe : IsSafe before old.entry.step new.step = subst (λ (k : Crowd). IsSafe before k.entry.step new.step) (sym value) (subst (λ (xs : List Crowd). IsSafe before (get_or xs near old).entry.step new.step) same (c.if-not-is_again.ensures.safe refl old)) in
    let empty : c.args.self.now.writes.items ≡ [] = none_of c.args.self.now.writes.items (search rules) in
    let taken : Crowd = record { entry = record { place = old.entry.place; step = new.step; from = old.entry.from; to = old.entry.to }; others = old.others } in
    read before new c.args.self.now _ None (subst (λ crowds. Tells before new crowds None) (sym empty) (tells_none before new)) refl
    (joined_at reads near old taken low (sym value) record { place = refl; from = refl; to = refl } before new bytes (taken_first before new.step old taken refl (thinned_none before new.step old.others.list.items) safe))
