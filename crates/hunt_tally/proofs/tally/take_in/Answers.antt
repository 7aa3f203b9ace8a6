use Rattle.std.proofs.Common.{◌≡◌, ℕ, ◌∷◌, [], ◌++◌, Some, None, sym, ap, ◌∙◌, subst, Vec, Global}
use Rattle.std.specs.Str.{bytes_eq}
use Rattle.std.specs.Map.{lookup, keys_of}
use Rattle.std.specs.List.{position}
use Rattle.indexmap.proofs.CallerLemmas.{insert_entry-new}
use Rattle.hunt_tally.specs.Tallies.{Tells}
use Rattle.hunt_tally.specs.Takes.{fresh, counted}
use Rattle.hunt_tally.specs.Views.{entries_in, entry_in}
use Rattle.hunt_tally.proofs.Entries.{entry_at, found, none_is, put_at, put_new, entries_push, counted_is}
use Rattle.hunt_tally.proofs.tally.take_in.Goals as goal

pub count-requires : goal.count-requires
count-requires c = let e = entry_at c.args.entries.now.entries _ _ c.index_mut.ensures.value in c.requires _ _ e.1

-- the key that is looked up is the telling's
pub returns-in-Some-clause-taken : goal.returns-in-Some-clause-taken
returns-in-Some-clause-taken c =
    let same : c.as_slice.result.now ≡ c.args.telling.key = c.as_slice.ensures.value ∙ ap (λ (t : Tells). t.key) c.telling.view_is in
    let is : Some c.in-Some.place ≡ position (λ (k : Vec ℕ Global). bytes_eq c.args.telling.key k.items) (keys_of c.args.entries.now.entries)
    = subst (λ key. Some c.in-Some.place ≡ position (λ (k : Vec ℕ Global). bytes_eq key k.items) (keys_of c.args.entries.now.entries)) same c.in-Some.ensures.index in
    let place = found _ _ c.in-Some.place is in
    put_at c.args.telling.key (counted c.args.run) (fresh c.args.run c.args.telling) c.args.entries.now.entries c.in-Some.place c.index_mut.result.now c.count.new.self (counted_is c.args.run _ _ c.count.ensures) c.index_mut.ensures.value place.0

pub returns-in_ok-insert-in-None-clause-taken : goal.returns-in_ok-insert-in-None-clause-taken
returns-in_ok-insert-in-None-clause-taken c =
    let same : c.as_slice.result.now ≡ c.args.telling.key = c.as_slice.ensures.value ∙ ap (λ (t : Tells). t.key) c.telling.view_is in
    let none : lookup (λ (k : Vec ℕ Global). bytes_eq c.as_slice.result.now k.items) c.args.entries.now.entries ≡ None = none_is _ (sym c.in-None.ensures.found) in
    let own : lookup (λ (k : Vec ℕ Global). bytes_eq c.telling.inside.key.items k.items) c.args.entries.now.entries ≡ None
    = subst (λ key. lookup (λ (k : Vec ℕ Global). bytes_eq key k.items) c.args.entries.now.entries ≡ None) c.as_slice.ensures.value none in
    let there : lookup (λ (k : Vec ℕ Global). bytes_eq c.args.telling.key k.items) c.args.entries.now.entries ≡ None
    = subst (λ key. lookup (λ (k : Vec ℕ Global). bytes_eq key k.items) c.args.entries.now.entries ≡ None) same none in
    let pushed : c.insert.new.self.entries ≡ c.args.entries.now.entries ++ (c.telling.inside.key, c.new.result) ∷ []
    = c.in_ok-insert-in-None.ensures.entries ∙ insert_entry-new (λ (x y : Vec ℕ Global). bytes_eq x.items y.items) c.args.entries.now c.telling.inside.key c.new.result own in
    let is : entry_in (c.telling.inside.key, c.new.result) ≡ fresh c.args.run c.args.telling
    = ap (λ v. entry_in (c.telling.inside.key, v)) c.new.ensures ∙ ap (fresh c.args.run) c.telling.view_is in
    ap entries_in pushed ∙ entries_push c.args.entries.now.entries (c.telling.inside.key, c.new.result)
    ∙ ap (λ e. entries_in c.args.entries.now.entries ++ e ∷ []) is ∙ sym (put_new c.args.telling.key (counted c.args.run) (fresh c.args.run c.args.telling) c.args.entries.now.entries there)
