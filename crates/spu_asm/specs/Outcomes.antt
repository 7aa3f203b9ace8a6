-- What the steps of assembling answer.
use Rattle.std.specs.Prelude.{◌≡◌, ℕ, Option, None, Some, Result, Ok, Err}
use Rattle.spu_asm.specs.declared.error.AsmError.{AsmError}
use Rattle.spu_asm.specs.declared.error.AsmError.TheVariants.{At, Memory}
use Rattle.spu_asm.specs.declared.error.AsmKind.{AsmKind}

infixl 10 ◌>>=◌
abbrev pub ◌>>=◌ : {A B E : Type 0} → Result A E → (A → Result B E) → Result B E
(Ok x) >>= f = f x
(Err e) >>= f = Err e

-- a fault of a line
abbrev pub on_line : {A : Type 0} → ℕ → Result A AsmKind → Result A AsmError
on_line number (Ok x) = Ok x
on_line number (Err kind) = Err (At number kind)

-- the fault of a line on which nothing stands of what is looked for
abbrev pub or_else : {A : Type 0} → AsmKind → Option A → Result A AsmKind
or_else kind (Some x) = Ok x
or_else kind None = Err kind

-- What was returned is what is given, unless memory ran out.
abbrev pub Gives : {A : Type 0} → Result A AsmError → Result A AsmError → Type 0
Gives (Ok x) given = given ≡ Ok x
Gives (Err Memory) given = Unit {0}
Gives (Err (At line kind)) given = given ≡ Err (At line kind)

-- What was returned shows what is given, unless memory ran out.
abbrev pub Shows : {A B : Type 0} → (A → B) → Result A AsmError → Result B AsmError → Type 0
Shows shown (Ok x) given = given ≡ Ok (shown x)
Shows shown (Err Memory) given = Unit {0}
Shows shown (Err (At line kind)) given = given ≡ Err (At line kind)
