-- A name is text.
use Rattle.std.proofs.Common.{◌≡◌, ◌<◌, ℕ, true, false, ◌&&◌, Bool, List, [], ◌∷◌, refl, arith}
use Rattle.std.specs.List.{list_all}
use Rattle.std.specs.Str.{IsAscii, IsUtf8}
use Rattle.std.proofs.lemmas.Bool.Decides.{nat_tests}
use Rattle.std.proofs.lemmas.Str.{IsUtf8-from_ascii}
use Rattle.std.proofs.lemmas.Str.Ascii.{IsAscii-nil, IsAscii-cons}
use Rattle.cell_load.specs.Form.{is_visible, is_name}

both : (a b : Bool) → (a && b) ≡ true → (a ≡ true) × (b ≡ true)
both true true e = (refl, refl)
both true false e = absurd cc
both false b e = absurd cc

visible_is_ascii : (b : ℕ) → is_visible b ≡ true → b < 128
visible_is_ascii b e = grind (arith, nat_tests)

all_visible_is_ascii : (w : List ℕ) → list_all is_visible w ≡ true → IsAscii w
all_visible_is_ascii [] e = IsAscii-nil
all_visible_is_ascii (b ∷ bs) e =
    let h = both (is_visible b) (list_all is_visible bs) e in
    IsAscii-cons b bs (visible_is_ascii b h.0) (all_visible_is_ascii bs h.1)

pub name_is_text : (w : List ℕ) → is_name w ≡ true → IsUtf8 w
name_is_text w e = IsUtf8-from_ascii w (all_visible_is_ascii w (both _ (list_all is_visible w) e).1)
