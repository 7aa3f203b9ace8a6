-- What has gone out of a piece, and what has come in of a file.
use Rattle.std.proofs.Common.{◌≡◌, ℕ, ◌+◌, ◌≤◌, ◌<◌, List, [], ◌++◌, length, take, drop, Option, Some, None, Result, Ok, Err, IsErr, sym, ap, ◌∙◌, subst, refl, arith, append-nil}
use Rattle.std.proofs.lemmas.List.{append_assoc, take-append-drop, length-append, nil_from_length}
use Rattle.std.proofs.Math.Seq.{take-append_seam}
use Rattle.std.specs.Io.KnownBytes.{Appends, Keeps, Consumes, IsAtEnd}
use Rattle.cell_io.specs.declared.store.Fetched.{Fetched}
use Rattle.cell_io.specs.declared.store.Fetched.TheVariants.{Whole, TooLong}
use Rattle.cell_io.specs.declared.store.FetchFault.{FetchFault}
use Rattle.cell_io.specs.Adapters.{IfTold}

-- the part of a piece that a writer has taken, and what is left of it
pub record Gone (known now : Option (List ℕ)) (piece left : List ℕ) : Type 0 where
  pub gone : List ℕ
  pub split : piece ≡ gone ++ left
  pub holds : Appends known now gone

appends_nothing : (known : Option (List ℕ)) → Appends known known []
appends_nothing None = tt
appends_nothing (Some xs) = sym (append-nil xs)

appends_both : (known now next : Option (List ℕ)) (gone more : List ℕ) → Appends known now gone → Appends now next more → Appends known next (gone ++ more)
appends_both None now next gone more first then = tt
appends_both (Some xs) None next gone more first then = absurd first
appends_both (Some xs) (Some ys) None gone more first then = absurd then
appends_both (Some xs) (Some ys) (Some zs) gone more first then =
    then ∙ ap (λ l. l ++ more) first ∙ append_assoc xs gone more

appends_kept : (known now next : Option (List ℕ)) (gone : List ℕ) → Appends known now gone → Keeps now next → Appends known next gone
appends_kept None now next gone first same = tt
appends_kept (Some xs) None next gone first same = absurd first
appends_kept (Some xs) (Some ys) None gone first same = absurd same
appends_kept (Some xs) (Some ys) (Some zs) gone first same = same ∙ first

pub nothing_gone : (known : Option (List ℕ)) (piece : List ℕ) → Gone known known piece piece
nothing_gone known piece = record { gone = []; split = refl; holds = appends_nothing known }

pub more_gone : (known now next : Option (List ℕ)) (piece left : List ℕ) (n : ℕ) → Gone known now piece left → Appends now next (take n left) → Gone known next piece (drop n left)
more_gone known now next piece left n so_far more = record {
  gone = so_far.gone ++ take n left;
  split = so_far.split ∙ ap (λ l. so_far.gone ++ l) (sym (take-append-drop n left)) ∙ sym (append_assoc so_far.gone (take n left) (drop n left));
  holds = appends_both known now next so_far.gone (take n left) so_far.holds more;
}

part_of : (known now : Option (List ℕ)) (piece left : List ℕ) → Gone known now piece left → (n : ℕ) × Appends known now (take n piece)
part_of known now piece left so_far =
    (length so_far.gone, subst (λ l. Appends known now l) (sym (ap (take (length so_far.gone)) so_far.split ∙ take-append_seam so_far.gone left)) so_far.holds)

pub part_gone : (known now next : Option (List ℕ)) (piece left : List ℕ) → Gone known now piece left → Keeps now next → (n : ℕ) × Appends known next (take n piece)
part_gone known now next piece left so_far same =
    part_of known next piece left record { gone = so_far.gone; split = so_far.split; holds = appends_kept known now next so_far.gone so_far.holds same }

pub part_gone_after : (known now next : Option (List ℕ)) (piece left : List ℕ) (n : ℕ) → Gone known now piece left → Appends now next (take n left) → (m : ℕ) × Appends known next (take m piece)
part_gone_after known now next piece left n so_far more =
    part_of known next piece (drop n left) (more_gone known now next piece left n so_far more)

pub all_gone : (known now : Option (List ℕ)) (piece left : List ℕ) → Gone known now piece left → length left ≡ 0 → Appends known now piece
all_gone known now piece left so_far empty =
    subst (λ l. Appends known now l) (sym (so_far.split ∙ ap (λ l. so_far.gone ++ l) (nil_from_length left empty) ∙ append-nil so_far.gone)) so_far.holds

-- the part of a file that a reader has given, and how much more the limit allows
pub record Given (known now : Option (List ℕ)) (limit left : ℕ) (old new : List ℕ) : Type 0 where
  pub given : List ℕ
  pub added : new ≡ old ++ given
  pub rest : Consumes known now given
  pub total : length given + left ≡ limit

consumes_nothing : (known : Option (List ℕ)) → Consumes known known []
consumes_nothing None = tt
consumes_nothing (Some xs) = refl

consumes_both : (known now next : Option (List ℕ)) (given more : List ℕ) → Consumes known now given → Consumes now next more → Consumes known next (given ++ more)
consumes_both None now next given more first then = tt
consumes_both (Some xs) None next given more first then = absurd first
consumes_both (Some xs) (Some ys) None given more first then = absurd then
consumes_both (Some xs) (Some ys) (Some zs) given more first then =
    first ∙ ap (λ l. given ++ l) then ∙ sym (append_assoc given more zs)

pub nothing_given : (known : Option (List ℕ)) (limit : ℕ) (old : List ℕ) → Given known known limit limit old old
nothing_given known limit old = record { given = []; added = sym (append-nil old); rest = consumes_nothing known; total = omega arith }

pub more_given : (known now next : Option (List ℕ)) (limit left : ℕ) (old new newer more : List ℕ) → Given known now limit left old new → Consumes now next more → newer ≡ new ++ more → length more ≤ left → (rest : ℕ) → rest + length more ≡ left → Given known next limit rest old newer
more_given known now next limit left old new newer more so_far then added within rest less = record {
  given = so_far.given ++ more;
  added = added ∙ ap (λ l. l ++ more) so_far.added ∙ append_assoc old so_far.given more;
  rest = consumes_both known now next so_far.given more so_far.rest then;
  total = omega (arith, so_far.total, length-append so_far.given more);
}

pub given_in_part : (known now : Option (List ℕ)) (limit left : ℕ) (old new newer : List ℕ) (result : Result Fetched FetchFault) → Given known now limit left old new → newer ≡ new → IsErr result → IfTold known limit old newer result
given_in_part None now limit left old new newer result so_far same is = tt
given_in_part (Some xs) now limit left old new newer (Ok fetched) so_far same is = absurd cc
given_in_part (Some xs) None limit left old new newer (Err fault) so_far same is = absurd so_far.rest
given_in_part (Some xs) (Some ys) limit left old new newer (Err fault) so_far same is =
    (length so_far.given, same ∙ so_far.added ∙ ap (λ l. old ++ l) (sym (ap (take (length so_far.given)) so_far.rest ∙ take-append_seam so_far.given ys)))

pub given_whole : (known now next : Option (List ℕ)) (limit left : ℕ) (old new more : List ℕ) → Given known now limit left old new → Consumes now next more → more ≡ [] → IsAtEnd next → IfTold known limit old new (Ok Whole)
given_whole None now next limit left old new more so_far then none end = tt
given_whole (Some xs) None next limit left old new more so_far then none end = absurd so_far.rest
given_whole (Some xs) (Some ys) None limit left old new more so_far then none end = absurd then
given_whole (Some xs) (Some ys) (Some zs) limit left old new more so_far then none end =
    let all : xs ≡ so_far.given = so_far.rest ∙ ap (λ l. so_far.given ++ l) (then ∙ ap (λ l. l ++ zs) none ∙ end) ∙ append-nil so_far.given in
    (omega (arith, so_far.total, ap length all), so_far.added ∙ ap (λ l. old ++ l) (sym all))

pub given_too_long : (known now next : Option (List ℕ)) (limit left : ℕ) (old new newer more : List ℕ) → Given known now limit left old new → Consumes now next more → newer ≡ new ++ more → left < length more → IfTold known limit old newer (Ok TooLong)
given_too_long None now next limit left old new newer more so_far then added over = tt
given_too_long (Some xs) None next limit left old new newer more so_far then added over = absurd so_far.rest
given_too_long (Some xs) (Some ys) None limit left old new newer more so_far then added over = absurd then
given_too_long (Some xs) (Some ys) (Some zs) limit left old new newer more so_far then added over =
    let given : List ℕ = so_far.given ++ more in
    let split : xs ≡ given ++ zs = so_far.rest ∙ ap (λ l. so_far.given ++ l) then ∙ sym (append_assoc so_far.given more zs) in
    let all : newer ≡ old ++ given = added ∙ ap (λ l. l ++ more) so_far.added ∙ append_assoc old so_far.given more in
    let longer : limit < length xs = omega (arith, so_far.total, ap length split, length-append given zs, length-append so_far.given more) in
    (longer, (length given, all ∙ ap (λ l. old ++ l) (sym (ap (take (length given)) split ∙ take-append_seam given zs))))
