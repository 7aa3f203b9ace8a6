use Rattle.std.proofs.Common.{rules, ℕ, ◌-◌, ◌<◌, ◌∷◌, ◌++◌, [], List, get_or, refl, sym, ap, ◌∙◌, subst, inr}
use Rattle.reorder_laws.specs.OrderedLaws.{IsOrdered}
use Rattle.run_permute.specs.SettledLists.{IsIn}
use Rattle.run_permute.specs.Tracks.{AreCovered, IsChain, IsEnd}
use Rattle.run_permute.proofs.Added.{sound-more, sound-push}
use Rattle.run_permute.proofs.Ends.{chain-rest, none-covered, strand-covered}
use Rattle.run_permute.proofs.Entries.{in-left, in-push}
use Rattle.run_permute.proofs.strand.Strand.gather_last.Goals.{then-end-eq0+in_ok-push, else-end-eq0}
use Rattle.run_permute.proofs.strand.Strand.gather_last.Goals as goal

pub is_before-requires : goal.is_before-requires
is_before-requires g c = (c.requires.0, c.requires.1.below 0 c.args.self.now.first refl)

pub returns-then-not-is_before-clause-covered : goal.returns-then-not-is_before-clause-covered
returns-then-not-is_before-clause-covered g c = none-covered g.here.run g.here.place c.args.needs.now.items c.args.self.now.first c.args.self.now.rest.items c.requires.1 (search rules)

pub gather_chain-requires : goal.gather_chain-requires
gather_chain-requires g c = (c.requires.0, subst (IsChain g.here.run g.here.place) (sym c.deref.ensures.value) (chain-rest g.here.run g.here.place c.args.self.now.first c.args.self.now.rest.items c.requires.1))

pub returns-clause-kept : goal.returns-clause-kept
returns-clause-kept g c = λ k h.
    elim c.if-end-eq0.branch [
      | then-end-eq0+in_ok-push w ↦ subst (IsIn k) (sym (ap (λ v. v.items) w.needs-is ∙ w.in_ok-push.ensures.items)) (in-left c.gather_chain.new.needs.items (c.args.self.now.first ∷ []) k (c.in_ok-end.ensures.kept k h))
      | else-end-eq0 w ↦ subst (IsIn k) (sym (ap (λ v. v.items) w.needs-is)) (c.in_ok-end.ensures.kept k h)
    ]

pub returns-clause-sound : goal.returns-clause-sound
returns-clause-sound g c = λ k h.
    let m = g.here.run in
    let j = g.here.place in
    let first = c.args.self.now.first in
    let mid = c.gather_chain.new.needs.items in
    let o : IsOrdered m first j = c.is_before.ensures.0 (search rules) in
    elim c.if-end-eq0.branch [
      | then-end-eq0+in_ok-push w ↦ sound-more m j c.args.needs.now.items mid (mid ++ first ∷ []) c.in_ok-end.ensures.sound (sound-push m j mid first o) k (subst (IsIn k) (ap (λ v. v.items) w.needs-is ∙ w.in_ok-push.ensures.items) h)
      | else-end-eq0 w ↦ c.in_ok-end.ensures.sound k (subst (IsIn k) (ap (λ v. v.items) w.needs-is) h)
    ]

pub returns-clause-covered : goal.returns-clause-covered
returns-clause-covered g c =
    let m = g.here.run in
    let j = g.here.place in
    let first = c.args.self.now.first in
    let rest = c.args.self.now.rest.items in
    let mid = c.gather_chain.new.needs.items in
    let end = c.in_ok-end.end in
    let o : IsOrdered m first j = c.is_before.ensures.0 (search rules) in
    let is = subst (λ (xs : List ℕ). IsEnd m j xs end) c.deref.ensures.value c.in_ok-end.ensures.end in
    let last = subst (λ (xs : List ℕ). 0 < end → IsIn (get_or xs (end - 1) 0) mid) c.deref.ensures.value c.in_ok-end.ensures.last in
    elim c.if-end-eq0.branch [
      | then-end-eq0+in_ok-push w ↦
          subst (λ needs. AreCovered m j needs (first ∷ rest)) (sym (ap (λ v. v.items) w.needs-is ∙ w.in_ok-push.ensures.items))
          (strand-covered m j first rest end (mid ++ first ∷ []) c.requires.1 o is (λ some. in-left mid (first ∷ []) (get_or rest (end - 1) 0) (last some)) (λ none. (in-push mid first first).1 (inr refl)))
      | else-end-eq0 w ↦
          subst (λ needs. AreCovered m j needs (first ∷ rest)) (sym (ap (λ v. v.items) w.needs-is))
          (strand-covered m j first rest end mid c.requires.1 o is last (λ none. absurd (w.if-end-eq0.false none)))
    ]
