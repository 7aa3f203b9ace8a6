-- A set has a step exactly where one of its parts has it.
use Rattle.std.proofs.Common.{◌≡◌, ◌≢◌, ℕ, zero, suc, ◌+◌, ◌-◌, max, replicate, ◌++◌, ◌==◌, Bool, true, false, ◌||◌, ◌&&◌, List, [], ◌∷◌, refl, ap, ap₂, sym, ◌∙◌, arith}
use Rattle.std.specs.Prelude.{nat_lt, nat_le, slice_index, flat_map}
use Rattle.std.specs.List.{list_any}
use Rattle.std.proofs.lemmas.Bool.Decides.{nat_tests}
use Rattle.std.proofs.lemmas.List.Folds.{list_any-append}
use Rattle.order_sets.specs.declared.facts.At.{At}
use Rattle.order_sets.specs.declared.facts.Fact.{Fact}
use Rattle.order_sets.specs.declared.facts.Fact.TheVariants.{Upto}
use Rattle.order_sets.specs.declared.known.Known.{Known}
use Rattle.order_sets.specs.declared.known.Known.TheInside.{Inside}
use Rattle.order_sets.specs.declared.parts.Part.{Part}
use Rattle.order_sets.specs.declared.run.Run.{Run}
use Rattle.order_sets.specs.Facts.{covers}
use Rattle.order_sets.specs.Holds.{in_run, in_part}
use Rattle.order_sets.specs.Seen.{below_ends, commands, elements, of_run, of_part, steps_of}
use Rattle.order_sets.specs.Stands.{has_at}
use Rattle.order_sets.proofs.AnySet.{first_more}

abbrev cover : List Fact → At → Bool
cover facts at = list_any (λ f. covers f at) facts

-- an end of the first chain, and those of the next ones
next_end : (chain e : ℕ) (ends : List ℕ) (at : At) → ((at.chain == chain && nat_lt at.place e) || (nat_le (chain + 1) at.chain && nat_lt at.place (slice_index ends (at.chain - (chain + 1))))) ≡ (nat_le chain at.chain && nat_lt at.place (slice_index (e ∷ ends) (at.chain - chain)))
next_end chain e ends at = on (at.chain - chain) refl
  where
    on : (n : ℕ) → at.chain - chain ≡ n → ((at.chain == chain && nat_lt at.place e) || (nat_le (chain + 1) at.chain && nat_lt at.place (slice_index ends (at.chain - (chain + 1))))) ≡ (nat_le chain at.chain && nat_lt at.place (slice_index (e ∷ ends) n))
    on zero is = grind (arith, nat_tests)
    on (suc n) is =
        let later : at.chain - (chain + 1) ≡ n = omega arith in
        rw later (grind (arith, nat_tests))

none_below : (b more : Bool) (at : At) → more ≡ ((b && nat_lt at.place 0) || more)
none_below b more at = grind (arith, nat_tests)

ends_have : (chain : ℕ) (ends : List ℕ) (at : At) → cover (below_ends chain ends) at ≡ (nat_le chain at.chain && nat_lt at.place (slice_index ends (at.chain - chain)))
ends_have chain [] at = grind (arith, nat_tests)
ends_have chain (zero ∷ ends) at = ends_have (chain + 1) ends at ∙ (none_below (at.chain == chain) _ at ∙ next_end chain 0 ends at)
ends_have chain (suc place ∷ ends) at =
    let under : nat_le at.place place ≡ nat_lt at.place (suc place) = grind (arith, nat_tests) in
    ap₂ (λ a b. (at.chain == chain && a) || b) under (ends_have (chain + 1) ends at) ∙ next_end chain (suc place) ends at

all_ends_have : (ends : List ℕ) (at : At) → cover (below_ends 0 ends) at ≡ nat_lt at.place (slice_index ends at.chain)
all_ends_have ends at =
    let first : nat_le 0 at.chain ≡ true = grind (arith, nat_tests) in
    let same : at.chain - 0 ≡ at.chain = omega arith in
    ends_have 0 ends at ∙ rw (first, same) refl

commands_have : (chain cmd n : ℕ) (at : At) → cover (commands chain cmd n) at ≡ (chain == at.chain && (nat_le cmd at.cmd && nat_lt at.cmd (cmd + n)))
commands_have chain cmd zero at = grind (arith, nat_tests)
commands_have chain cmd (suc n) at = rw (commands_have chain (cmd + 1) n at) (grind (arith, nat_tests))

run_has : (r : Run) (at : At) → cover (of_run r) at ≡ in_run at r
run_has r at = rw (commands_have r.chain r.first (r.last + 1 - r.first) at) (grind (arith, nat_tests))

runs_have : (runs : List Run) (at : At) → cover (flat_map of_run runs) at ≡ list_any (in_run at) runs
runs_have [] at = refl
runs_have (r ∷ runs) at = list_any-append (λ f. covers f at) (of_run r) (flat_map of_run runs) ∙ ap₂ (λ a b. a || b) (run_has r at) (runs_have runs at)

elements_have : (below chain cmd n : ℕ) (at : At) → cover (elements below chain cmd n) at ≡ ((chain == at.chain && (nat_le cmd at.cmd && nat_lt at.cmd (cmd + n))) && nat_lt at.elem below)
elements_have below chain cmd zero at = grind (arith, nat_tests)
elements_have below chain cmd (suc n) at = rw (elements_have below chain (cmd + 1) n at) (grind (arith, nat_tests))

part_has : (p : Part) (at : At) → cover (of_part p) at ≡ in_part at p
part_has p at = rw (elements_have p.below p.run.chain p.run.first (p.run.last + 1 - p.run.first) at) (grind (arith, nat_tests))

parts_have : (parts : List Part) (at : At) → cover (flat_map of_part parts) at ≡ list_any (in_part at) parts
parts_have [] at = refl
parts_have (p ∷ parts) at = list_any-append (λ f. covers f at) (of_part p) (flat_map of_part parts) ∙ ap₂ (λ a b. a || b) (part_has p at) (parts_have parts at)

-- an end, a run, a part or another fact has the step
abbrev pub parts_have_it : List ℕ → List Run → List Part → List Fact → At → Bool
parts_have_it ends runs parts rest at = nat_lt at.place (slice_index ends at.chain) || (list_any (in_run at) runs || (list_any (in_part at) parts || cover rest at))

pub has_it : (ends : List ℕ) (runs : List Run) (parts : List Part) (rest : List Fact) (at : At)
    → cover (below_ends 0 ends ++ (flat_map of_run runs ++ (flat_map of_part parts ++ rest))) at ≡ parts_have_it ends runs parts rest at
has_it ends runs parts rest at =
    list_any-append (λ f. covers f at) (below_ends 0 ends) _
    ∙ ap₂ (λ a b. a || b) (all_ends_have ends at)
    (list_any-append (λ f. covers f at) (flat_map of_run runs) _
    ∙ ap₂ (λ a b. a || b) (runs_have runs at)
    (list_any-append (λ f. covers f at) (flat_map of_part parts) _
    ∙ ap (λ a. a || cover rest at) (parts_have parts at)))

pub was : (known : Inside) (value : Known) (at : At) → steps_of known ≡ value → parts_have_it known.ends.items known.runs.items known.parts.items known.rest.items at ≡ has_at value at
was known value at e = sym (has_it known.ends.items known.runs.items known.parts.items known.rest.items at) ∙ ap (λ v. has_at v at) e

pub nothing : (ends : List ℕ) (runs : List Run) (parts : List Part) (rest : List Fact) (at : At) → slice_index ends at.chain ≡ 0 → runs ≡ [] → parts ≡ [] → rest ≡ [] → parts_have_it ends runs parts rest at ≡ false
nothing ends runs parts rest at no_end no_run no_part no_one = rw (no_end, no_run, no_part, no_one) (grind (arith, nat_tests))

-- ---- after something was put in, or dropped

assoc : (a b c : Bool) → (a || (b || c)) ≡ ((a || b) || c)
assoc true b c = refl
assoc false b c = refl

within : (a b c more : Bool) → b ≡ (c || more) → (a || b) ≡ ((a || c) || more)
within a b c more e = ap (λ x. a || x) e ∙ assoc a c more

both : (a b c d : Bool) → ((a || b) || (c || d)) ≡ ((a || c) || (b || d))
both a b c d = assoc (a || b) c d ∙ (ap (λ x. x || d) (first_more a (a || b) c b refl) ∙ sym (assoc (a || c) b d))

pub end_raised : (old new : List ℕ) (chain place end : ℕ) (at : At) → end ≡ place + 1 → slice_index new chain ≡ max (slice_index old chain) end → ((k : ℕ) → k ≢ chain → slice_index new k ≡ slice_index old k)
    → nat_lt at.place (slice_index new at.chain) ≡ (nat_lt at.place (slice_index old at.chain) || covers (Upto chain place) at)
end_raised old new chain place end at behind here others = on (at.chain == chain) refl
  where
    on : (b : Bool) → (at.chain == chain) ≡ b → nat_lt at.place (slice_index new at.chain) ≡ (nat_lt at.place (slice_index old at.chain) || (b && nat_le at.place place))
    on true is =
        let same : at.chain ≡ chain = grind (arith, nat_tests) in
        rw (same, here, behind) (grind (arith, nat_tests))
    on false is =
        let other : at.chain ≢ chain = λ e. grind (arith, nat_tests) in
        rw (others at.chain other) (grind (arith, nat_tests))

pub more_ends : (known : Inside) (ends : List ℕ) (at : At) (more : Bool) → nat_lt at.place (slice_index ends at.chain) ≡ (nat_lt at.place (slice_index known.ends.items at.chain) || more)
    → parts_have_it ends known.runs.items known.parts.items known.rest.items at ≡ (parts_have_it known.ends.items known.runs.items known.parts.items known.rest.items at || more)
more_ends known ends at more e = first_more _ _ _ more e

pub more_runs : (known : Inside) (runs : List Run) (at : At) (more : Bool) → list_any (in_run at) runs ≡ (list_any (in_run at) known.runs.items || more)
    → parts_have_it known.ends.items runs known.parts.items known.rest.items at ≡ (parts_have_it known.ends.items known.runs.items known.parts.items known.rest.items at || more)
more_runs known runs at more e = within (nat_lt at.place (slice_index known.ends.items at.chain)) _ _ more (first_more _ _ _ more e)

pub more_parts : (known : Inside) (parts : List Part) (at : At) (more : Bool) → list_any (in_part at) parts ≡ (list_any (in_part at) known.parts.items || more)
    → parts_have_it known.ends.items known.runs.items parts known.rest.items at ≡ (parts_have_it known.ends.items known.runs.items known.parts.items known.rest.items at || more)
more_parts known parts at more e = within (nat_lt at.place (slice_index known.ends.items at.chain)) _ _ more (within (list_any (in_run at) known.runs.items) _ _ more (first_more _ _ _ more e))

pub more_rest : (known : Inside) (rest : List Fact) (at : At) (more : Bool) → cover rest at ≡ (cover known.rest.items at || more)
    → parts_have_it known.ends.items known.runs.items known.parts.items rest at ≡ (parts_have_it known.ends.items known.runs.items known.parts.items known.rest.items at || more)
more_rest known rest at more e = within (nat_lt at.place (slice_index known.ends.items at.chain)) _ _ more (within (list_any (in_run at) known.runs.items) _ _ more (within (list_any (in_part at) known.parts.items) _ _ more e))

pub ends_joined : (old other new : List ℕ) (at : At) → slice_index new at.chain ≡ max (slice_index old at.chain) (slice_index other at.chain)
    → nat_lt at.place (slice_index new at.chain) ≡ (nat_lt at.place (slice_index old at.chain) || nat_lt at.place (slice_index other at.chain))
ends_joined old other new at e = rw e (grind (arith, nat_tests))

all_more : (a b c a₂ b₂ c₂ d d₂ : Bool) → ((a || a₂) || ((b || b₂) || ((c || c₂) || (d || d₂)))) ≡ ((a || (b || (c || d))) || (a₂ || (b₂ || (c₂ || d₂))))
all_more a b c a₂ b₂ c₂ d d₂ =
    ap (λ x. (a || a₂) || x) (ap (λ x. (b || b₂) || x) (both c c₂ d d₂) ∙ both b b₂ (c || d) (c₂ || d₂))
    ∙ both a a₂ (b || (c || d)) (b₂ || (c₂ || d₂))

pub joined : (known other : Inside) (ends : List ℕ) (runs : List Run) (parts : List Part) (rest : List Fact) (at : At)
    → nat_lt at.place (slice_index ends at.chain) ≡ (nat_lt at.place (slice_index known.ends.items at.chain) || nat_lt at.place (slice_index other.ends.items at.chain))
    → list_any (in_run at) runs ≡ (list_any (in_run at) known.runs.items || list_any (in_run at) other.runs.items)
    → list_any (in_part at) parts ≡ (list_any (in_part at) known.parts.items || list_any (in_part at) other.parts.items)
    → cover rest at ≡ (cover known.rest.items at || cover other.rest.items at)
    → parts_have_it ends runs parts rest at ≡ (parts_have_it known.ends.items known.runs.items known.parts.items known.rest.items at || parts_have_it other.ends.items other.runs.items other.parts.items other.rest.items at)
joined known other ends runs parts rest at e r p o =
    ap₂ (λ a b. a || b) e (ap₂ (λ a b. a || b) r (ap₂ (λ a b. a || b) p o))
    ∙ all_more (nat_lt at.place (slice_index known.ends.items at.chain)) (list_any (in_run at) known.runs.items) (list_any (in_part at) known.parts.items)
    (nat_lt at.place (slice_index other.ends.items at.chain)) (list_any (in_run at) other.runs.items) (list_any (in_part at) other.parts.items)
    (cover known.rest.items at) (cover other.rest.items at)

same_all : (e r p p₂ o o₂ : Bool) → (r || p₂) ≡ (r || p) → ((r || p₂) || o₂) ≡ ((r || p₂) || o) → (e || (r || (p₂ || o₂))) ≡ (e || (r || (p || o)))
same_all e r p p₂ o o₂ parts ones = ap (λ x. e || x) (assoc r p₂ o₂ ∙ (ones ∙ (ap (λ x. x || o) parts ∙ sym (assoc r p o))))

pub dropped : (known : Inside) (parts : List Part) (rest : List Fact) (at : At)
    → (list_any (in_run at) known.runs.items || list_any (in_part at) parts) ≡ (list_any (in_run at) known.runs.items || list_any (in_part at) known.parts.items)
    → ((list_any (in_run at) known.runs.items || list_any (in_part at) parts) || cover rest at) ≡ ((list_any (in_run at) known.runs.items || list_any (in_part at) parts) || cover known.rest.items at)
    → parts_have_it known.ends.items known.runs.items parts rest at ≡ parts_have_it known.ends.items known.runs.items known.parts.items known.rest.items at
dropped known parts rest at same same_ones =
    same_all (nat_lt at.place (slice_index known.ends.items at.chain)) (list_any (in_run at) known.runs.items) (list_any (in_part at) known.parts.items) (list_any (in_part at) parts)
    (cover known.rest.items at) (cover rest at) same same_ones

pub zeros : (ends : List ℕ) (n k : ℕ) → ends ≡ replicate n 0 → slice_index ends k ≡ 0
zeros ends n k e = rw e (all_zero n k)
  where
    all_zero : (n k : ℕ) → slice_index (replicate n 0) k ≡ 0
    all_zero zero k = refl
    all_zero (suc n) zero = refl
    all_zero (suc n) (suc k) = all_zero n k
