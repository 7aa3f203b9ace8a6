-- What is kept of the commands that instructions issue, when one more does.
use Rattle.std.proofs.Common.{◌≡◌, ℕ, zero, suc, ◌<◌, ap, refl, sym, subst, ◌∙◌, List, [], ◌∷◌, ◌++◌, length, get_or, map, set, inl, inr, true≢false, get_or-set_other, arith}
use Rattle.std.specs.Prelude.{◌⊎◌, ◌==◌, ◌&&◌, Bool, true, false, slice_index, slice_index_or, Vec}
use Rattle.std.specs.Global.{Global}
use Rattle.std.proofs.lemmas.Bool.{and_parts, cases_eq, eqb-true, eq-eqb}
use Rattle.std.proofs.lemmas.List.{get_or-set_same, length-map, map-append, map-set}
use Rattle.cell_base.specs.declared.steps.Step.{Step}
use Rattle.cell_base.specs.declared.steps.Step.TheVariants.{Exec, Piece, Elem, Retire, Atomic, Host}
use Rattle.mfc_command.specs.declared.command.Command.{Command}
use Rattle.cell_machine.specs.declared.effect.Note.{Note}
use Rattle.cell_machine.specs.declared.effect.Note.TheVariants as note
use Rattle.cell_hunt.specs.declared.origins.Origins.{Origins}
use Rattle.cell_hunt.specs.Origins.{IsIssued, commands_of, issued_at}
use Rattle.cell_hunt.specs.Sites.{issues_atomic, issues_command, issues_for}

-- a list with its default behind it
pub pad : {X : Type 0} (xs : List X) (d : X) (k : ℕ) → get_or (xs ++ d ∷ []) k d ≡ get_or xs k d
pad [] d zero = refl
pad [] d (suc k) = refl
pad (x ∷ xs) d zero = refl
pad (x ∷ xs) d (suc k) = pad xs d k

pub commands-pad : (lists : List (Vec ℕ Global)) (new : Vec ℕ Global) (p : ℕ) → new.items ≡ [] → commands_of (lists ++ new ∷ []) p ≡ commands_of lists p
commands-pad lists new p none =
    ap (λ (xs : List (List ℕ)). slice_index_or xs p []) (map-append (λ (v : Vec ℕ Global). v.items) lists (new ∷ []) ∙ ap (λ (xs : List ℕ). map (λ (v : Vec ℕ Global). v.items) lists ++ xs ∷ []) none)
    ∙ pad (map (λ (v : Vec ℕ Global). v.items) lists) [] p

pub commands-at : (lists : List (Vec ℕ Global)) (i : ℕ) (list : Vec ℕ Global) → i < length lists → list ≡ get_or lists i list → commands_of lists i ≡ list.items
commands-at [] i list low is = absurd (omega (arith, low))
commands-at (first ∷ lists) zero list low is = ap (λ (v : Vec ℕ Global). v.items) (sym is)
commands-at (first ∷ lists) (suc i) list low is = commands-at lists i list (omega (arith, low)) is

-- another list in the place of one
pub commands-here : (lists : List (Vec ℕ Global)) (i : ℕ) (new : Vec ℕ Global) → i < length lists → commands_of (set lists i new) i ≡ new.items
commands-here lists i new low =
    ap (λ (xs : List (List ℕ)). slice_index_or xs i []) (map-set (λ (v : Vec ℕ Global). v.items) lists i new)
    ∙ get_or-set_same (map (λ (v : Vec ℕ Global). v.items) lists) i new.items [] (subst (λ n. i < n) (sym (length-map lists (λ (v : Vec ℕ Global). v.items))) low)

pub commands-other : (lists : List (Vec ℕ Global)) (i p : ℕ) (new : Vec ℕ Global) → (p ≡ i → ⊥) → commands_of (set lists i new) p ≡ commands_of lists p
commands-other lists i p new ne =
    ap (λ (xs : List (List ℕ)). slice_index_or xs p []) (map-set (λ (v : Vec ℕ Global). v.items) lists i new) ∙ get_or-set_other (map (λ (v : Vec ℕ Global). v.items) lists) i p new.items [] ne

-- one number changes
pub command-left : (lists : List (Vec ℕ Global)) (i number : ℕ) (old new : Vec ℕ Global) → i < length lists → commands_of lists i ≡ old.items → ((k : ℕ) → (k ≡ number → ⊥) → slice_index new.items k ≡ slice_index old.items k)
    → (p c : ℕ) → ((p ≡ i) × (c ≡ number) → ⊥) → slice_index (commands_of (set lists i new) p) c ≡ slice_index (commands_of lists p) c
command-left lists i number old new low is left p c other = by (cases_eq p i)
  where
    by : (p ≡ i) ⊎ (p ≡ i → ⊥) → slice_index (commands_of (set lists i new) p) c ≡ slice_index (commands_of lists p) c
    by (inl here) =
        ap (λ q. slice_index (commands_of (set lists i new) q) c) here
        ∙ ap (λ xs. slice_index xs c) (commands-here lists i new low)
        ∙ left c (λ e. other (here, e))
        ∙ ap (λ xs. slice_index xs c) (sym is)
        ∙ ap (λ q. slice_index (commands_of lists q) c) (sym here)
    by (inr ne) = ap (λ xs. slice_index xs c) (commands-other lists i p new ne)

-- ---- what is issued

both : (a b c d : ℕ) → a ≡ b → c ≡ d → (a == b && (d == c)) ≡ true
both a b c d e f = rw (eq-eqb a b e, eq-eqb d c (sym f)) refl

and-false : (b : Bool) → (b && false) ≡ false
and-false true = refl
and-false false = refl

equal_parts : (a b c d : ℕ) → (a == b && (d == c)) ≡ true → (a ≡ b) × (c ≡ d)
equal_parts a b c d is_so = let p = and_parts _ _ is_so in (eqb-true a b p.0, sym (eqb-true d c p.1))

-- a command of this number
pub issued-command : (p number at : ℕ) (command : Command) (old new : Origins) → slice_index (commands_of new.commands.items p) number ≡ at
    → ((q c : ℕ) → ((q ≡ p) × (c ≡ number) → ⊥) → slice_index (commands_of new.commands.items q) c ≡ slice_index (commands_of old.commands.items q) c) → new.atomics ≡ old.atomics → IsIssued p (note.Issue number command) at old new
issued-command p number at command old new is left same = record { here = here; left = kept }
  where
    at_it : (q c : ℕ) → (q == p && (number == c)) ≡ true → slice_index (commands_of new.commands.items q) c ≡ at
    at_it q c is_so = let r = equal_parts q p c number is_so in ap (λ x. slice_index (commands_of new.commands.items x) c) r.0 ∙ ap (slice_index (commands_of new.commands.items p)) r.1 ∙ is

    not_it : (q c : ℕ) → (q == p && (number == c)) ≡ false → slice_index (commands_of new.commands.items q) c ≡ slice_index (commands_of old.commands.items q) c
    not_it q c isnt = left q c (λ r. true≢false (sym (both q p c number r.0 r.1) ∙ isnt))

    here : (of : Step) → issues_for of p (note.Issue number command) ≡ true → issued_at new of ≡ at
    here (Piece q c x k) is_so = at_it q c is_so
    here (Elem q c) is_so = at_it q c is_so
    here (Retire q c) is_so = at_it q c is_so
    here (Atomic q) is_so = absurd (true≢false (sym is_so ∙ and-false (q == p)))
    here (Exec q) is_so = absurd (true≢false (sym is_so))
    here Host is_so = absurd (true≢false (sym is_so))

    kept : (of : Step) → issues_for of p (note.Issue number command) ≡ false → issued_at new of ≡ issued_at old of
    kept (Piece q c x k) isnt = not_it q c isnt
    kept (Elem q c) isnt = not_it q c isnt
    kept (Retire q c) isnt = not_it q c isnt
    kept (Atomic q) isnt = ap (λ (v : Vec ℕ Global). slice_index v.items q) same
    kept (Exec q) isnt = refl
    kept Host isnt = refl

-- an atomic one
pub issued-atomic : (p at : ℕ) (old new : Origins) → slice_index new.atomics.items p ≡ at → ((q : ℕ) → (q ≡ p → ⊥) → slice_index new.atomics.items q ≡ slice_index old.atomics.items q) → new.commands ≡ old.commands → IsIssued p note.AtomicIssue at old new
issued-atomic p at old new is left same = record { here = here; left = kept }
  where
    here : (of : Step) → issues_for of p note.AtomicIssue ≡ true → issued_at new of ≡ at
    here (Piece q c x k) is_so = absurd (true≢false (sym is_so ∙ and-false (q == p)))
    here (Elem q c) is_so = absurd (true≢false (sym is_so ∙ and-false (q == p)))
    here (Retire q c) is_so = absurd (true≢false (sym is_so ∙ and-false (q == p)))
    here (Atomic q) is_so = ap (slice_index new.atomics.items) (eqb-true q p (and_parts _ _ is_so).0) ∙ is
    here (Exec q) is_so = absurd (true≢false (sym is_so))
    here Host is_so = absurd (true≢false (sym is_so))

    kept : (of : Step) → issues_for of p note.AtomicIssue ≡ false → issued_at new of ≡ issued_at old of
    kept (Piece q c x k) isnt = ap (λ (v : Vec (Vec ℕ Global) Global). slice_index (commands_of v.items q) c) same
    kept (Elem q c) isnt = ap (λ (v : Vec (Vec ℕ Global) Global). slice_index (commands_of v.items q) c) same
    kept (Retire q c) isnt = ap (λ (v : Vec (Vec ℕ Global) Global). slice_index (commands_of v.items q) c) same
    kept (Atomic q) isnt = left q (λ e. true≢false (sym (rw (eq-eqb q p e) refl) ∙ isnt))
    kept (Exec q) isnt = refl
    kept Host isnt = refl

-- none
command-none : (n : Note) (number : ℕ) → ((c : ℕ) (command : Command) → n ≡ note.Issue c command → ⊥) → issues_command n number ≡ false
command-none (note.Issue c command) number none = absurd (none c command refl)
command-none note.Nothing number none = refl
command-none note.AtomicIssue number none = refl
command-none (note.TagRead groups issued) number none = refl
command-none (note.StallRead groups) number none = refl
command-none (note.Ack tag) number none = refl
command-none note.AtomicRead number none = refl
command-none (note.Put spe mailbox) number none = refl
command-none (note.Take spe mailbox) number none = refl
command-none note.Ended number none = refl
command-none (note.Awaited spe) number none = refl
command-none (note.Signal spe register) number none = refl
command-none (note.Element n' k flagged) number none = refl

atomic-none : (n : Note) → (n ≡ note.AtomicIssue → ⊥) → issues_atomic n ≡ false
atomic-none (note.Issue c command) none = refl
atomic-none note.Nothing none = refl
atomic-none note.AtomicIssue none = absurd (none refl)
atomic-none (note.TagRead groups issued) none = refl
atomic-none (note.StallRead groups) none = refl
atomic-none (note.Ack tag) none = refl
atomic-none note.AtomicRead none = refl
atomic-none (note.Put spe mailbox) none = refl
atomic-none (note.Take spe mailbox) none = refl
atomic-none note.Ended none = refl
atomic-none (note.Awaited spe) none = refl
atomic-none (note.Signal spe register) none = refl
atomic-none (note.Element n' k flagged) none = refl

pub issued-none : (p at : ℕ) (n : Note) (old : Origins) → ((c : ℕ) (command : Command) → n ≡ note.Issue c command → ⊥) → (n ≡ note.AtomicIssue → ⊥) → IsIssued p n at old old
issued-none p at n old command atomic = record { here = λ of is_so. absurd (true≢false (sym is_so ∙ none of)); left = λ of isnt. refl }
  where
    queued : (q c : ℕ) → (q == p && issues_command n c) ≡ false
    queued q c = ap (λ b. q == p && b) (command-none n c command) ∙ and-false (q == p)

    none : (of : Step) → issues_for of p n ≡ false
    none (Piece q c x k) = queued q c
    none (Elem q c) = queued q c
    none (Retire q c) = queued q c
    none (Atomic q) = ap (λ b. q == p && b) (atomic-none n atomic) ∙ and-false (q == p)
    none (Exec q) = refl
    none Host = refl
