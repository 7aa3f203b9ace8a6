-- The passes of workers before and after their turns, and all put together.
use Rattle.std.proofs.Common.{◌≡◌, ℕ, ◌<◌, List, length, [], ◌∷◌, All, Some, Option, IfSome, option_to_list, take, ◌++◌, slice_index_or, sym, ap, ◌∙◌, subst, ⊎_elim, arith}
use Rattle.std.proofs.lemmas.List.Elements.{All-pop, All-push}
use Rattle.std.proofs.Math.Seq.{take-append_seam}
use Rattle.cell_machine.specs.Run.{HasEnd}
use Rattle.cell_turn.specs.Choice.{ran}
use Rattle.cell_turn.specs.Known.{Known, Sharing, Belongs}
use Rattle.cell_turn.specs.Told.{left_pass, new_pass, Joined}
use Rattle.spe_workers.specs.declared.worker.Worker.{Worker}
use Rattle.spe_workers.specs.Worked.{IsNew, IsDone}
use Rattle.spe_workers.specs.Works.{Works}

abbrev pub AllNew : Sharing → List Worker → Type 0
AllNew s = All (λ (w : Worker). IsNew w.pass s)

abbrev pub AllDone : Sharing → List Worker → Type 0
AllDone s = All (λ (w : Worker). IsDone w.pass s)

-- what a split leaves, and what it gives
pub left_split : (p q : Known) (s : Sharing) → Belongs p s → q ≡ left_pass p → Belongs q s
left_split p q s own e = (ap (λ (k : Known). k.table) e ∙ own.0, ap (λ (k : Known). k.setup) e ∙ own.1, ap (λ (k : Known). k.passes) e ∙ own.2)

pub new_split : (p q : Known) (s : Sharing) → Belongs p s → q ≡ new_pass p → IsNew q s
new_split p q s own e = (ap (λ (k : Known). k.tokens) e, (ap (λ (k : Known). k.table) e ∙ own.0, ap (λ (k : Known). k.setup) e ∙ own.1, ap (λ (k : Known). k.passes) e ∙ own.2))

-- one more worker is seated
pub new_more : (s : Sharing) (xs ys : List Worker) (w : Worker) → AllNew s xs → ys ≡ xs ++ w ∷ [] → IsNew w.pass s → AllNew s ys
new_more s xs ys w h e new = subst (AllNew s) (sym e) (All-push (λ (v : Worker). IsNew v.pass s) xs w h new)

pub popped : (s : Sharing) (xs ys : List Worker) (r : Option Worker) (w : Worker) → xs ≡ ys ++ option_to_list r → r ≡ Some w → AllDone s xs → AllDone s ys × IsDone w.pass s
popped s xs ys r w e is h =
    let a = All-pop (λ (w : Worker). IsDone w.pass s) xs ys r e h in
    (a.0, subst (λ (o : Option Worker). IfSome o (λ w. IsDone w.pass s)) is a.1)

-- two passes put together are one of the same shared machine, which has seen an end where both had
pub own_join : (p q r : Known) (s : Sharing) → Belongs p s → Joined p q r → Belongs r s
own_join p q r s own j = (ap (λ (k : Known). k.table) j.same ∙ own.0, ap (λ (k : Known). k.setup) j.same ∙ own.1, ap (λ (k : Known). k.passes) j.same ∙ own.2)

pub ended_join : (p q r : Known) (s : Sharing) → Belongs p s → Belongs q s → HasEnd (ran p.setup p.seen) → HasEnd (ran q.setup q.seen) → Joined p q r → HasEnd (ran r.setup r.seen)
ended_join p q r s own own' end end' j =
    let setup : r.setup ≡ p.setup = ap (λ (k : Known). k.setup) j.same in
    let setup' : r.setup ≡ q.setup = setup ∙ (own.1 ∙ sym own'.1) in
    ⊎_elim
    (λ (e : r.seen ≡ p.seen). subst HasEnd (λ i. ran (sym setup i) (sym e i)) end)
    (λ (e : r.seen ≡ q.seen). subst HasEnd (λ i. ran (sym setup' i) (sym e i)) end')
    j.longer

-- workers that had a token each are done after their turns
all_done : (s : Sharing) (xs ys : List Worker) → length ys ≡ length xs → AllNew s xs → ((i : ℕ) (d : Worker) → i < length xs → Works (slice_index_or xs i d) (slice_index_or ys i d)) → AllDone s ys
all_done s xs ys same h works i d lt =
    let lt' : i < length xs = omega arith in
    let old = h i d lt' in
    let w = works i d lt' in
    let f = w.pass.further.same in
    ((f.3 ∙ old.0, (f.0 ∙ old.1.0, f.1 ∙ old.1.1, f.2 ∙ old.1.2)), w.pass.ended)

-- the same, where the list was written through a slice
pub all_done_within : (s : Sharing) (n : ℕ) (old xs ys zs : List Worker) → xs ≡ old → length ys ≡ length xs → length ys ≡ n → AllNew s old
    → ((i : ℕ) (d : Worker) → i < length xs → Works (slice_index_or xs i d) (slice_index_or ys i d)) → AllDone s (take n (ys ++ zs))
all_done_within s n old xs ys zs is same len h works =
    let whole : take n (ys ++ zs) ≡ ys = ap (λ (k : ℕ). take k (ys ++ zs)) (sym len) ∙ take-append_seam ys zs in
    subst (AllDone s) (sym whole) (all_done s xs ys same (subst (AllNew s) (sym is) h) works)
