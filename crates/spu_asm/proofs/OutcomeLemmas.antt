-- What the steps of assembling answer.
use Rattle.std.proofs.Common.{◌≡◌, ℕ, Result, Ok, Err, refl, ap}
use Rattle.spu_asm.specs.declared.error.AsmError.{AsmError}
use Rattle.spu_asm.specs.declared.error.AsmKind.{AsmKind}
use Rattle.spu_asm.specs.declared.error.AsmError.TheVariants.{At, Memory}
use Rattle.spu_asm.specs.Outcomes.{◌>>=◌, on_line, Shows, Gives}

-- what was done went well
pub bind_ok : {A B E : Type 0} (r : Result A E) (f : A → Result B E) (y : B) → (r >>= f) ≡ Ok y → (x : A) × (r ≡ Ok x) × (f x ≡ Ok y)
bind_ok (Ok x) f y is = (x, refl, is)
bind_ok (Err e) f y is = absurd cc

pub line_ok : {X : Type 0} (number : ℕ) (r : Result X AsmKind) (x : X) → on_line number r ≡ Ok x → r ≡ Ok x
line_ok number (Ok y) x e = let p : y ≡ x = cc in ap Ok p
line_ok number (Err k) x e = absurd cc

pub ok_is : {X E : Type 0} (x y : X) → ◌≡◌ {A = Result X E} (Ok x) (Ok y) → x ≡ y
ok_is x y e = cc

-- a fault that is given
pub shows_err : {A B : Type 0} (shown : A → B) (e : AsmError) (total : Result B AsmError) → total ≡ Err e → Shows shown (Err e) total
shows_err shown (At line kind) total is = is
shows_err shown Memory total is = tt

-- the fault of a step
pub gives_err : {A B C : Type 0} (shown : A → B) (e : AsmError) (step : Result B AsmError) (total : Result C AsmError) → Shows shown (Err e) step → (step ≡ Err e → total ≡ Err e) → Gives (Err e) total
gives_err shown (At line kind) step total is go = go is
gives_err shown Memory step total is go = tt
