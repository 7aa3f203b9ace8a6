-- Requests for the status of tag groups. Group t is bit value 2^t of a mask.
use Rattle.std.specs.Prelude.{◌≡◌, ◌<◌, ◌↔◌, ℕ, ◌==◌, ◌||◌, not, Bool, if◌then◌else◌, Option, Some, None, bit_and}
use Rattle.std.specs.Int.{bit_at, bit_not, w32}
use Rattle.tag_groups.specs.declared.Tags.{Tags}
use Rattle.tag_groups.specs.declared.Request.{Request}

abbrev pub opening_tags : Tags
opening_tags = record { mask = 0; request = None; status = None }

-- a request takes the mask as it stands, in place of a pending request and an unread status
abbrev pub requested : Tags → ℕ → Tags
requested t how = record { mask = t.mask; request = Some (record { how = how; mask = t.mask }); status = None }

-- the groups of the mask with nothing outstanding
abbrev pub idle_groups : ℕ → ℕ → ℕ
idle_groups busy mask = bit_and mask (bit_not w32 busy)

-- in words of groups: of the 32 these have exactly those that the mask has and that aren't busy
abbrev pub AreIdle : ℕ → ℕ → ℕ → Type 0
AreIdle busy mask groups = (t : ℕ) → t < 32 → (bit_at groups t ≡ 1) ↔ ((bit_at mask t ≡ 1) × (bit_at busy t ≡ 0))

-- whether the request's condition holds: at once where it asks so or its mask is 0; where some group is idle; where all are
abbrev pub is_met : ℕ → Request → Bool
is_met busy r =
    r.how == 0 || r.mask == 0 || (if r.how == 1 then not (idle_groups busy r.mask == 0) else bit_and r.mask busy == 0)

abbrev pub fixed_at : ℕ → ℕ → Tags → Option Request → Tags
fixed_at busy issued t None = t
fixed_at busy issued t (Some r) =
    if is_met busy r
    then record { mask = t.mask; request = None; status = Some (record { groups = idle_groups busy r.mask; issued = issued }) }
    else t

-- at the end of a step a request whose condition holds becomes a status
abbrev pub settled_tags : ℕ → ℕ → Tags → Tags
settled_tags busy issued t = fixed_at busy issued t t.request
