use Rattle.std.proofs.Common.{◌≡◌, ℕ, ◌∷◌, [], ◌++◌, Some, None, sym, ap, ◌∙◌, subst, arith, Vec, Global}
use Rattle.std.specs.Str.{bytes_eq}
use Rattle.std.specs.Map.{lookup, keys_of}
use Rattle.std.specs.List.{position, position_or_len}
use Rattle.indexmap.proofs.CallerLemmas.{insert_entry-new}
use Rattle.hunt_tally.specs.Tallies.{Entry}
use Rattle.hunt_tally.specs.Joins.{merged, shifted}
use Rattle.hunt_tally.specs.Views.{entries_in, entry_in}
use Rattle.hunt_tally.proofs.Entries.{found, none_is, put_at, put_new, entries_push, telling_at}
use Rattle.hunt_tally.proofs.tally.join_in.Goals as goal
use Rattle.hunt_tally.proofs.tally.join_in.Goals.{In-Some}

place : (c : In-Some) → position_or_len (λ (k : Vec ℕ Global). bytes_eq c.args.key.items k.items) (keys_of c.args.entries.now.entries) ≡ c.in-Some.place
place c =
    let is : Some c.in-Some.place ≡ position (λ (k : Vec ℕ Global). bytes_eq c.args.key.items k.items) (keys_of c.args.entries.now.entries)
    = subst (λ key. Some c.in-Some.place ≡ position (λ (k : Vec ℕ Global). bytes_eq key k.items) (keys_of c.args.entries.now.entries)) c.as_slice.ensures.value c.in-Some.ensures.index in
    (found _ _ c.in-Some.place is).0

pub join-requires-clause-runs : goal.join-requires-clause-runs
join-requires-clause-runs c =
    let same = telling_at c.args.key.items c.args.entries.now.entries c.in-Some.place c.index_mut.result.now c.index_mut.ensures.value (place (goal.at.join-requires-clause-runs c).In-Some) in
    omega (arith, same, c.requires.runs)

pub returns-in-Some : goal.returns-in-Some
returns-in-Some c =
    let e : Entry = entry_in (c.args.key, c.args.counted) in
    put_at c.args.key.items (merged c.args.before e) (shifted c.args.before e) c.args.entries.now.entries c.in-Some.place c.index_mut.result.now c.join.new.self
    (λ k. ap (λ v. entry_in (k, v)) c.join.ensures) c.index_mut.ensures.value (place (goal.at.returns-in-Some c).In-Some)

pub returns-in_ok-insert-in-None : goal.returns-in_ok-insert-in-None
returns-in_ok-insert-in-None c =
    let e : Entry = entry_in (c.args.key, c.args.counted) in
    let none : lookup (λ (k : Vec ℕ Global). bytes_eq c.args.key.items k.items) c.args.entries.now.entries ≡ None
    = subst (λ key. lookup (λ (k : Vec ℕ Global). bytes_eq key k.items) c.args.entries.now.entries ≡ None) c.as_slice.ensures.value (none_is _ (sym c.in-None.ensures.found)) in
    let pushed : c.insert.new.self.entries ≡ c.args.entries.now.entries ++ (c.args.key, c.behind.result) ∷ []
    = c.in_ok-insert-in-None.ensures.entries ∙ insert_entry-new (λ (x y : Vec ℕ Global). bytes_eq x.items y.items) c.args.entries.now c.args.key c.behind.result none in
    ap entries_in pushed ∙ entries_push c.args.entries.now.entries (c.args.key, c.behind.result)
    ∙ ap (λ v. entries_in c.args.entries.now.entries ++ entry_in (c.args.key, v) ∷ []) c.behind.ensures
    ∙ sym (put_new c.args.key.items (merged c.args.before e) (shifted c.args.before e) c.args.entries.now.entries none)
