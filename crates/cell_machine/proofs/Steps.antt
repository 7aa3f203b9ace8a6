-- A step of one processor, in the whole machine.
use Rattle.std.proofs.Common.{◌≡◌, ℕ, zero, suc, ◌≤◌, ◌*◌, List, [], ◌∷◌, map, length, arith, refl, sym, ◌∙◌, ap, subst, true, false, Bool}
use Rattle.std.specs.Prelude.{Option, Some, None, IsSomeAnd, MatchBool, slice_get, option_and_then}
use Rattle.tag_groups.specs.declared.Tags.{Tags}
use Rattle.tag_groups.specs.declared.Request.{Request}
use Rattle.tag_groups.specs.Settle.{settled_tags, fixed_at, is_met}
use Rattle.cell_host.specs.Script.{Progress}
use Rattle.cell_machine.specs.declared.memory.SharedMemory.{SharedMemory}
use Rattle.cell_machine.specs.declared.processor.Processor.{Processor}
use Rattle.cell_machine.specs.Spe.{Spe}
use Rattle.cell_machine.specs.State.{State}
use Rattle.cell_machine.specs.Tags.{settled}
use Rattle.cell_machine.specs.Exec.{exec}
use Rattle.cell_machine.specs.Transfers.{elem}
use Rattle.cell_machine.specs.Memory.{MainMemory, lines_of}
use Rattle.cell_machine.specs.Shows.{Shows, ShowsSpe, reservations}
use Rattle.cell_machine.proofs.AllTwo.{two_none}

-- a processor that isn't there makes no step
pub act-absent : {memory : SharedMemory} {host : Progress} {X : Type 0} (f : Spe → Option X) (processors : List Processor) (M : State) (p : ℕ) → Shows processors memory host M → length processors ≤ p → option_and_then f (slice_get M.spes p) ≡ None
act-absent f processors M p shows h = ap (option_and_then f) (two_none ShowsSpe processors M.spes p shows.spes h)

fixed-again : (busy issued : ℕ) (t : Tags) (r : Request) (b : Bool) → t.request ≡ Some r → is_met busy r ≡ b → settled_tags busy issued (fixed_at busy issued t (Some r)) ≡ fixed_at busy issued t (Some r)
fixed-again busy issued t r true e m = rw m refl
fixed-again busy issued t r false e m = rw m (ap (fixed_at busy issued t) e ∙ rw m refl)

settled-again : (busy issued : ℕ) (t : Tags) (o : Option Request) → t.request ≡ o → settled_tags busy issued (fixed_at busy issued t o) ≡ fixed_at busy issued t o
settled-again busy issued t None e = ap (fixed_at busy issued t) e
settled-again busy issued t (Some r) e = fixed-again busy issued t r (is_met busy r) e refl

-- what was settled stays
pub settled-twice : (P : Spe) → settled (settled P) ≡ settled P
settled-twice P = ap (λ t. record P { tags = t }) (settled-again _ _ P.tags P.tags.request refl)

-- settling leaves what is reserved
pub settled-reserved : (spes : List Spe) → reservations (map settled spes) ≡ reservations spes
settled-reserved [] = refl
settled-reserved (P ∷ spes) = ap (λ xs. P.reserved ∷ xs) (settled-reserved spes)

pub reserved-at : (spes : List Spe) (p : ℕ) (P : Spe) → slice_get spes p ≡ Some P → slice_get (reservations spes) p ≡ Some P.reserved
reserved-at [] p P h = absurd (cc)
reserved-at (Q ∷ spes) zero P h = let e : Q ≡ P = cc in ap (λ (R : Spe). Some R.reserved) e
reserved-at (Q ∷ spes) (suc p) P h = reserved-at spes p P h

pub lines-is : (memory : MainMemory) (bytes : List ℕ) (lines : ℕ) → memory.bytes ≡ bytes → 128 * lines ≡ length bytes → lines_of memory ≡ lines
lines-is memory bytes lines same long = let e = ap length same in omega arith

-- an instruction and the reading of an element, by the lines that the code counts
pub lines-exec : (memory : MainMemory) (bytes : List ℕ) (lines : ℕ) (P : Spe) (R : Spe → Type 0) (made : Bool) → memory.bytes ≡ bytes → 128 * lines ≡ length bytes → MatchBool made (IsSomeAnd (exec lines P) R) (exec lines P ≡ None)
    → MatchBool made (IsSomeAnd (exec (lines_of memory) P) R) (exec (lines_of memory) P ≡ None)
lines-exec memory bytes lines P R made same long h = subst (λ n. MatchBool made (IsSomeAnd (exec n P) R) (exec n P ≡ None)) (sym (lines-is memory bytes lines same long)) h

pub lines-elem : (memory : MainMemory) (bytes : List ℕ) (lines c : ℕ) (P : Spe) (R : Spe → Type 0) (made : Bool) → memory.bytes ≡ bytes → 128 * lines ≡ length bytes → MatchBool made (IsSomeAnd (elem lines P c) R) (elem lines P c ≡ None)
    → MatchBool made (IsSomeAnd (elem (lines_of memory) P c) R) (elem (lines_of memory) P c ≡ None)
lines-elem memory bytes lines c P R made same long h = subst (λ n. MatchBool made (IsSomeAnd (elem n P c) R) (elem n P c ≡ None)) (sym (lines-is memory bytes lines same long)) h
