-- The operands of an instruction follow the pattern of its row.
use Rattle.std.specs.Prelude.{ℕ, ◌<◌, ◌&&◌, Bool, true, false, List, [], ◌∷◌, length, drop, ◌==◌, Option, None, Some, IfSome, if◌then◌else◌, nat_lt, codes}
use Rattle.std.specs.Str.{bytes_eq}
use Rattle.spu_lex.specs.declared.Token.{Token}
use Rattle.spu_lex.specs.Numbers.{are_digits, number_of}
use Rattle.spu_decode.specs.declared.shape.Operands.{Operands}
use Rattle.spu_decode.specs.declared.shape.Operands.TheVariants as operands
use Rattle.spu_decode.specs.declared.shape.Operands.TheVariants.{RtDisplacementRa, RtSevenRa, RtRaRb, RtRaRbRc, RtRa, RaRb, RtAbsolute, RtRelative, Absolute, Relative, RtSignedHalf, RtHalf, RtUnsigned, RtRaTen, RtRaByte, RtRaSeven, RaTen, Code, RtChannel, ChannelRt, OptionalRegister, HintRa, HintAddresses, Bare}
use Rattle.spu_asm.specs.declared.syntax.Given.{Given}
use Rattle.spu_asm.specs.declared.syntax.Slot.{Slot}
use Rattle.spu_asm.specs.declared.syntax.Slot.TheVariants.{Rt, Ra, Rb, Rc, Channel, Value, Second, Mark}
use Rattle.spu_asm.specs.Reading.{◌>>=◌, word, is_register, is_number, mark_at, ended}
use Rattle.spu_asm.specs.Expressions.{expression_at, IsOf}

-- what is written, in order; 44 is a comma, 40 and 41 are parentheses
abbrev pub pattern : Operands → List Slot
pattern RtDisplacementRa = Rt ∷ Mark 44 ∷ Value ∷ Mark 40 ∷ Ra ∷ Mark 41 ∷ []
pattern RtSevenRa = Rt ∷ Mark 44 ∷ Value ∷ Mark 40 ∷ Ra ∷ Mark 41 ∷ []
pattern RtRaRb = Rt ∷ Mark 44 ∷ Ra ∷ Mark 44 ∷ Rb ∷ []
pattern RtRaRbRc = Rt ∷ Mark 44 ∷ Ra ∷ Mark 44 ∷ Rb ∷ Mark 44 ∷ Rc ∷ []
pattern RtRa = Rt ∷ Mark 44 ∷ Ra ∷ []
pattern RaRb = Ra ∷ Mark 44 ∷ Rb ∷ []
pattern operands.Ra = Ra ∷ []
pattern RtAbsolute = Rt ∷ Mark 44 ∷ Value ∷ []
pattern RtRelative = Rt ∷ Mark 44 ∷ Value ∷ []
pattern Absolute = Value ∷ []
pattern Relative = Value ∷ []
pattern RtSignedHalf = Rt ∷ Mark 44 ∷ Value ∷ []
pattern RtHalf = Rt ∷ Mark 44 ∷ Value ∷ []
pattern RtUnsigned = Rt ∷ Mark 44 ∷ Value ∷ []
pattern RtRaTen = Rt ∷ Mark 44 ∷ Ra ∷ Mark 44 ∷ Value ∷ []
pattern RtRaByte = Rt ∷ Mark 44 ∷ Ra ∷ Mark 44 ∷ Value ∷ []
pattern RtRaSeven = Rt ∷ Mark 44 ∷ Ra ∷ Mark 44 ∷ Value ∷ []
pattern RaTen = Ra ∷ Mark 44 ∷ Value ∷ []
pattern Code = Value ∷ []
pattern RtChannel = Rt ∷ Mark 44 ∷ Channel ∷ []
pattern ChannelRt = Channel ∷ Mark 44 ∷ Rt ∷ []
pattern OptionalRegister = Rt ∷ []
pattern HintRa = Value ∷ Mark 44 ∷ Ra ∷ []
pattern HintAddresses = Value ∷ Mark 44 ∷ Second ∷ []
pattern Bare = []

-- whether the operands may be left out
abbrev pub is_optional : Operands → Bool
is_optional OptionalRegister = true
is_optional _ = false

abbrev pub up_to_127 : Option ℕ → Option ℕ
up_to_127 None = None
up_to_127 (Some n) = if nat_lt n 128 then Some n else None

-- a decimal number up to 127, without a leading zero
abbrev pub small_number : List ℕ → Option ℕ
small_number digits = if are_digits 10 digits then up_to_127 (number_of digits) else None

-- `lr` and `sp` are 0 and 1
abbrev pub register_named : List ℕ → Option ℕ
register_named name =
    if bytes_eq name (codes "lr") then Some 0 else (if bytes_eq name (codes "sp") then Some 1 else small_number name)

-- a channel's register has `ch` before its number
abbrev pub channel_named : List ℕ → Option ℕ
channel_named (b ∷ c ∷ digits) = if (b == 99) && (c == 104) then small_number digits else None
channel_named _ = None

-- the name of a register stands after its `$`
unfoldable pub register_at : List ℕ → List Token → Option (ℕ × List Token)
register_at text [] = None
register_at text (t ∷ ts) =
    if is_register t.kind then (register_named (drop 1 (word text t)) >>= λ n. Some (n, ts)) else None

-- a channel is a register's name or a number
unfoldable pub channel_at : List ℕ → List Token → Option (ℕ × List Token)
channel_at text [] = None
channel_at text (t ∷ ts) =
    if is_register t.kind then (channel_named (drop 1 (word text t)) >>= λ n. Some (n, ts))
    else (if is_number t.kind then (up_to_127 (number_of (word text t)) >>= λ n. Some (n, ts)) else None)

-- what a slot takes from the front, beside what was given before it
unfoldable pub put_at : List ℕ → Slot → Given → List Token → Option (Given × List Token)
put_at text Rt g ts = register_at text ts >>= λ r. Some (record g { rt = r.0 }, r.1)
put_at text Ra g ts = register_at text ts >>= λ r. Some (record g { ra = r.0 }, r.1)
put_at text Rb g ts = register_at text ts >>= λ r. Some (record g { rb = r.0 }, r.1)
put_at text Rc g ts = register_at text ts >>= λ r. Some (record g { rc = r.0 }, r.1)
put_at text Channel g ts = channel_at text ts >>= λ r. Some (record g { ra = r.0 }, r.1)
put_at text Value g ts = expression_at text ts >>= λ e. Some (record g { value = Some e.0 }, e.1)
put_at text Second g ts = expression_at text ts >>= λ e. Some (record g { second = Some e.0 }, e.1)
put_at text (Mark b) g ts = mark_at text b ts >>= λ rest. Some (g, rest)

-- the operands that fill a pattern, with those that are there already
unfoldable pub filled : List ℕ → List Slot → Given → List Token → Option Given
filled text [] g ts = ended g ts
filled text (slot ∷ slots) g ts = put_at text slot g ts >>= λ x. filled text slots x.0 x.1

abbrev pub nothing_given : Given
nothing_given = record { rt = 0; ra = 0; rb = 0; rc = 0; value = None; second = None }

-- the operands of a form
abbrev pub operands_of : List ℕ → Operands → List Token → Option Given
operands_of text form ts =
    if is_optional form && (length ts == 0) then Some nothing_given else filled text (pattern form) nothing_given ts

-- registers below 128, and expressions of the text
abbrev pub GivenFits : List ℕ → Given → Type 0
GivenFits text g = (g.rt < 128) × (g.ra < 128) × (g.rb < 128) × (g.rc < 128) × IfSome g.value (IsOf text) × IfSome g.second (IsOf text)
