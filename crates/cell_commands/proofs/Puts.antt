-- Two texts, one after the other.
use Rattle.std.proofs.Common.{◌≡◌, ℕ, ◌+◌, List, ◌++◌, length, take, min, Option, Some, None, Result, Ok, Err, sym, ◌∙◌, ap, append_assoc, arith, subst}
use Rattle.std.proofs.lemmas.List.{take-append-le, take_min}
use Rattle.std.proofs.Math.Seq.{take-append-add}
use Rattle.cell_io.specs.Store.{AddsPrefix}
use Rattle.cell_io.specs.Sink.{Takes}
use Rattle.cell_commands.specs.Output.{Took, TookPart}

part_of_first : (old first second new : List ℕ) → AddsPrefix old first new → AddsPrefix old (first ++ second) new
part_of_first old first second new (n, is) =
    (min n (length first), is ∙ ap (λ t. old ++ t) (sym (take_min n first) ∙ sym (take-append-le (min n (length first)) first second (omega arith))))

part_of_second : (old first second new : List ℕ) → AddsPrefix (old ++ first) second new → AddsPrefix old (first ++ second) new
part_of_second old first second new (n, is) =
    (length first + n, is ∙ append_assoc old first (take n second) ∙ ap (λ t. old ++ t) (sym (take-append-add first second n)))

pub takes_first : {T T' E : Type 0} (old new : Option (List ℕ)) (first second : List ℕ) (fault : E) (r : Result T E) (r' : Result T' E) → r ≡ Err fault → r' ≡ Err fault → Takes old new first r → Takes old new (first ++ second) r'
takes_first None new first second fault r r' is is' t = t
takes_first {T} {T'} {E} (Some old) new first second fault r r' is is' t =
    let u : (taken : List ℕ) × (new ≡ Some taken) × AddsPrefix old first taken = subst (λ x. Takes (Some old) new first x) is t in
    let v : (taken : List ℕ) × (new ≡ Some taken) × AddsPrefix old (first ++ second) taken = (u.0, u.1, part_of_first old first second u.0 u.2) in
    subst (λ x. Takes {T = T'} (Some old) new (first ++ second) x) (sym is') v

-- the first was taken whole, and then this came of the second
pub takes_second : {T E : Type 0} (old now new : Option (List ℕ)) (first second : List ℕ) (done : T) (r : Result T E) → Takes {T = T} {E = E} old now first (Ok done) → Takes now new second r → Takes old new (first ++ second) r
takes_second {T} {E} None now new first second done r a b = subst (λ n. Takes {T = T} {E = E} n new second r) a b
takes_second {T} {E} (Some old) now new first second done (Ok d) a b =
    let c : new ≡ Some ((old ++ first) ++ second) = subst (λ n. Takes {T = T} {E = E} n new second (Ok d)) a b in
    c ∙ ap Some (append_assoc old first second)
takes_second {T} {E} (Some old) now new first second done (Err e) a b =
    let c : (taken : List ℕ) × (new ≡ Some taken) × AddsPrefix (old ++ first) second taken = subst (λ n. Takes {T = T} {E = E} n new second (Err e)) a b in
    (c.0, c.1, part_of_second old first second c.0 c.2)

pub took : {T : Type 0} (E : Type 0) (old new : Option (List ℕ)) (text : List ℕ) (done : T) → Takes {T = T} {E = E} old new text (Ok done) → Took old new text
took E (Some old) new text done t = t
took E None new text done t = t

pub took_part : {E : Type 0} (T : Type 0) (old new : Option (List ℕ)) (text : List ℕ) (fault : E) → Takes {T = T} {E = E} old new text (Err fault) → TookPart old new text
took_part T (Some old) new text fault t = t
took_part T None new text fault t = t
