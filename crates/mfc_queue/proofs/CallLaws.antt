-- What one more call changes.
use Rattle.std.proofs.Common.{◌≡◌, ℕ, ◌||◌, ◌&&◌, not, Bool, true, false, List, [], ◌∷◌, ◌++◌, length, refl, ◌∙◌, ap}
use Rattle.std.specs.Prelude.{fold, nat_lt}
use Rattle.std.specs.List.{list_any, cons_option}
use Rattle.std.proofs.lemmas.List.Elements.{filter_map-append}
use Rattle.std.proofs.lemmas.List.Folds.{list_any-append}
use mathlib.Core.Path.{fun_ext}
use Rattle.mfc_command.specs.declared.command.Command.{Command}
use Rattle.mfc_queue.specs.Calls.{Call, Issue, SetParts, Mark, Retire, issued, command_in, is_retired, retires, is_outstanding, parts, parts_after, is_marked, marked_after}

pub issued-more : (calls : List Call) (x : Call) → issued (calls ++ x ∷ []) ≡ issued calls ++ cons_option (command_in x) []
unfolding issued
issued-more calls x = filter_map-append command_in calls (x ∷ [])

or_false : (b : Bool) → (b || false) ≡ b
or_false true = refl
or_false false = refl

pub retired-more : (calls : List Call) (x : Call) (cmd : ℕ) → is_retired (calls ++ x ∷ []) cmd ≡ (is_retired calls cmd || retires cmd x)
unfolding is_retired
retired-more calls x cmd = list_any-append (retires cmd) calls (x ∷ []) ∙ ap (λ b. list_any (retires cmd) calls || b) (or_false (retires cmd x))

fold-more : {A B : Type 0} (f : B → A → B) (b : B) (xs : List A) (x : A) → fold f b (xs ++ x ∷ []) ≡ f (fold f b xs) x
fold-more f b [] x = refl
fold-more f b (y ∷ xs) x = fold-more f (f b y) xs x

pub parts-more : (calls : List Call) (x : Call) (cmd : ℕ) → parts (calls ++ x ∷ []) cmd ≡ parts_after cmd (parts calls cmd) x
unfolding parts
parts-more calls x cmd = fold-more (parts_after cmd) 0 calls x

pub marked-more : (calls : List Call) (x : Call) (cmd k : ℕ) → is_marked (calls ++ x ∷ []) cmd k ≡ marked_after cmd k (is_marked calls cmd k) x
unfolding is_marked
marked-more calls x cmd k = fold-more (marked_after cmd k) false calls x

append_nothing : {X : Type 0} (xs : List X) → xs ++ [] ≡ xs
append_nothing [] = refl
append_nothing (x ∷ xs) = ap (λ ys. x ∷ ys) (append_nothing xs)

-- a call that issues and retires nothing
pub issued-same : (calls : List Call) (cmd n : ℕ) → issued (calls ++ SetParts cmd n ∷ []) ≡ issued calls
issued-same calls cmd n = issued-more calls (SetParts cmd n) ∙ append_nothing (issued calls)

pub issued-marked : (calls : List Call) (cmd k : ℕ) → issued (calls ++ Mark cmd k ∷ []) ≡ issued calls
issued-marked calls cmd k = issued-more calls (Mark cmd k) ∙ append_nothing (issued calls)

pub issued-retired : (calls : List Call) (cmd : ℕ) → issued (calls ++ Retire cmd ∷ []) ≡ issued calls
issued-retired calls cmd = issued-more calls (Retire cmd) ∙ append_nothing (issued calls)

pub issued-issued : (calls : List Call) (c : Command) → issued (calls ++ Issue c ∷ []) ≡ issued calls ++ c ∷ []
issued-issued calls c = issued-more calls (Issue c)

pub retired-same : (calls : List Call) (cmd n : ℕ) → is_retired (calls ++ SetParts cmd n ∷ []) ≡ is_retired calls
retired-same calls cmd n = fun_ext (λ k. retired-more calls (SetParts cmd n) k ∙ or_false (is_retired calls k))

pub retired-marked : (calls : List Call) (cmd n : ℕ) → is_retired (calls ++ Mark cmd n ∷ []) ≡ is_retired calls
retired-marked calls cmd n = fun_ext (λ k. retired-more calls (Mark cmd n) k ∙ or_false (is_retired calls k))

pub retired-issued : (calls : List Call) (c : Command) → is_retired (calls ++ Issue c ∷ []) ≡ is_retired calls
retired-issued calls c = fun_ext (λ k. retired-more calls (Issue c) k ∙ or_false (is_retired calls k))

pub outstanding-marked : (calls : List Call) (cmd part k : ℕ) → is_outstanding (calls ++ Mark cmd part ∷ []) k ≡ is_outstanding calls k
outstanding-marked calls cmd part k = ap (λ f. nat_lt k (length (issued (calls ++ Mark cmd part ∷ []))) && not (f k)) (retired-marked calls cmd part) ∙ ap (λ cs. nat_lt k (length cs) && not (is_retired calls k)) (issued-marked calls cmd part)
