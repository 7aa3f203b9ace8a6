-- The host's actions, as the code comes to them.
use Rattle.std.proofs.Common.{◌≡◌, ℕ, zero, suc, ◌<◌, ◌≤◌, List, [], ◌∷◌, map, length, take, arith, refl, sym, ◌∙◌, slice_index_or, slice_set, ap, subst, true, false, Bool}
use Rattle.std.specs.Prelude.{All, Option, Some, None, IsSomeAnd, IfSome, is_some, slice_get}
use Rattle.std.specs.Option.{option_map}
use Rattle.cell_host.specs.declared.HostAction.{HostAction}
use Rattle.cell_host.specs.declared.HostAction.TheVariants.{Send, Take, TakeIntr, Store, Await, Signal as SignalTo}
use Rattle.cell_host.specs.Script.{Progress, advanced, takes, next_takes}
use Rattle.cell_machine.specs.declared.processor.Processor.{Processor}
use Rattle.cell_machine.specs.declared.hosts.Taken.{Taken}
use Rattle.cell_machine.specs.declared.memory.SharedMemory.{SharedMemory}
use Rattle.cell_machine.specs.Spe.{Spe}
use Rattle.cell_machine.specs.State.{State, with_spe}
use Rattle.cell_machine.specs.Hosts.{Given, Acted, at_spe, given, acted, after_action, host as host_step}
use Rattle.cell_base.specs.declared.steps.Step.TheVariants.{Host}
use Rattle.std.specs.List.{enumerate_from}
use Rattle.cell_machine.specs.Tags.{settled}
use Rattle.cell_machine.specs.Raised.{with_raised, raised_at}
use Rattle.cell_machine.specs.Next.{closed_in}
use Rattle.cell_machine.specs.Shows.{Shows, ShowsSpe, ShowsMemory, AllTwo, AreSettled, IsStill, lost_by, Loses, reservations, Gives, Leaves}
use Rattle.cell_machine.specs.OwnEvents.{own_bits, with_own}
use Rattle.cell_machine.specs.Memory.{stored}
use Rattle.cell_machine.proofs.Bounds.{IsLike, given-like, like-settled, settled-at}
use Rattle.cell_machine.proofs.Ending.{alone-ends, store-ends}
use Rattle.cell_machine.proofs.AllTwo.{two_at, two_none, is_some_map}

-- what a processor answers is what the action leaves
leaves-one : {memory : SharedMemory} {host : Progress} (processors : List Processor) (M : State) (p : ℕ) (P : Spe) (new : Processor) (r : Option Taken) (o : Option Given)
    → Shows processors memory host M → AreSettled M.spes → length processors ≤ 16 → slice_get M.spes p ≡ Some P → IfSome o (λ g. IsLike p P g.spe) → Gives P r o new
    → Leaves M r (option_map (λ g. record { state = with_spe M p g.spe; took = g.took }) o) (slice_set processors p new) memory host
leaves-one processors M p P new None None shows all few at like given = tt
leaves-one processors M p P new (Some t) (Some g) shows all few at like given =
    let still : settled g.spe ≡ g.spe = like-settled p P g.spe like (settled-at M.spes p P all at) in
    let same : settled (with_own P g.spe) ≡ with_own P g.spe = ap (λ (X : Spe). with_raised X (own_bits P g.spe)) still in
    (alone-ends processors new M Host p P g.spe shows all few at (λ q. refl) like.4 (subst (ShowsSpe new) (sym same) given.0), given.1)
leaves-one processors M p P new None (Some g) shows all few at like given = absurd given
leaves-one processors M p P new (Some t) None shows all few at like given = absurd given

pub leaves-at : (processors : List Processor) (memory : SharedMemory) (host : Progress) (M : State) (p : ℕ) (a : HostAction) (d new : Processor) (r : Option Taken)
    → Shows processors memory host M → AreSettled M.spes → length processors ≤ 16 → p < length processors
    → ((P : Spe) → ShowsSpe (slice_index_or processors p d) P → IsStill P → Gives P r (given a P) new)
    → Leaves M r (at_spe M p (given a)) (slice_set processors p new) memory host
leaves-at processors memory host M p a d new r shows all few h does =
    let two = two_at ShowsSpe processors M.spes p d shows.spes h in
    rw two.1 (leaves-one processors M p two.0 new r (given a two.0) shows all few two.1 (given-like p a two.0) (does two.0 two.2 (settled-at M.spes p two.0 all two.1)))

pub leaves-absent : (processors : List Processor) (memory : SharedMemory) (host : Progress) (M : State) (p : ℕ) (f : Spe → Option Given)
    → Shows processors memory host M → length processors ≤ p → Leaves M None (at_spe M p f) processors memory host
leaves-absent processors memory host M p f shows h = rw (two_none ShowsSpe processors M.spes p shows.spes h) tt

-- the action was done, and is counted
after : (M : State) (processors : List Processor) (memory : SharedMemory) (host : Progress) (t : Taken) (o : Option Acted)
    → Leaves M (Some t) o processors memory host → IsSomeAnd (option_map after_action o) (λ N. Shows processors memory (advanced host t.value) (closed_in M Host N))
unfolding raised_at
after M processors memory host t None h = absurd h
after M processors memory host t (Some d) h =
    record { spes = h.0.spes; memory_is = h.0.memory_is; host_is = ap (λ x. advanced x d.took) h.0.host_is ∙ ap (advanced host) h.1 }

none_left : (M : State) (processors : List Processor) (memory : SharedMemory) (host : Progress) (o : Option Acted) → Leaves M None o processors memory host → option_map after_action o ≡ None
none_left M processors memory host None h = refl
none_left M processors memory host (Some d) h = absurd h

at_state : (M : State) (host : Progress) (a : HostAction) → M.host ≡ host → slice_get host.script host.done ≡ Some a → slice_get M.host.script M.host.done ≡ Some a
at_state M host a same next = subst (λ (h : Progress). slice_get h.script h.done ≡ Some a) (sym same) next

pub host-over : (M : State) (host : Progress) → M.host ≡ host → slice_get host.script host.done ≡ None → host_step M ≡ None
unfolding host_step
host-over M host same none = rw (same, none) refl

pub host-done : (processors : List Processor) (memory : SharedMemory) (host : Progress) (M : State) (a : HostAction) (t : Taken)
    → M.host ≡ host → slice_get host.script host.done ≡ Some a → Leaves M (Some t) (acted M a) processors memory host
    → IsSomeAnd (host_step M) (λ N. Shows processors memory (advanced host t.value) (closed_in M Host N))
unfolding host_step
host-done processors memory host M a t same next h = rw (at_state M host a same next) (after M processors memory host t (acted M a) h)

pub host-refused : (processors : List Processor) (memory : SharedMemory) (host : Progress) (M : State) (a : HostAction)
    → M.host ≡ host → slice_get host.script host.done ≡ Some a → Leaves M None (acted M a) processors memory host → host_step M ≡ None
unfolding host_step
host-refused processors memory host M a same next h = rw (at_state M host a same next) (none_left M processors memory host (acted M a) h)

-- whether the next action is allowed
pub host-allowed : (M : State) (host : Progress) (a : HostAction) (b : Bool) → M.host ≡ host → slice_get host.script host.done ≡ Some a → b ≡ is_some (acted M a) → b ≡ is_some (host_step M)
unfolding host_step
host-allowed M host a b same next h = h ∙ sym (rw (at_state M host a same next) (is_some_map after_action (acted M a)))

pub at-allowed : (processors : List Processor) (memory : SharedMemory) (host : Progress) (M : State) (p : ℕ) (f : Spe → Option Given) (x : Processor) (b : Bool)
    → Shows processors memory host M → p < length processors → x ≡ slice_index_or processors p x → ((P : Spe) → ShowsSpe x P → b ≡ is_some (f P))
    → b ≡ is_some (at_spe M p f)
at-allowed processors memory host M p f x b shows h at test =
    let two = two_at ShowsSpe processors M.spes p x shows.spes h in
    sym (rw two.1 (is_some_map (λ g. record { state = with_spe M p g.spe; took = g.took }) (f two.0)
    ∙ sym (test two.0 (subst (λ y. ShowsSpe y two.0) (sym at) two.2))))

pub at-absent : (processors : List Processor) (memory : SharedMemory) (host : Progress) (M : State) (p : ℕ) (f : Spe → Option Given)
    → Shows processors memory host M → length processors ≤ p → is_some (at_spe M p f) ≡ false
at-absent processors memory host M p f shows h = rw (two_none ShowsSpe processors M.spes p shows.spes h) refl

-- what the actions are to their processors
pub acted-send : (M : State) (p value : ℕ) → acted M (Send p value) ≡ at_spe M p (given (Send p value))
unfolding acted
acted-send M p value = refl

pub acted-take : (M : State) (p : ℕ) → acted M (Take p) ≡ at_spe M p (given (Take p))
unfolding acted
acted-take M p = refl

pub acted-take_intr : (M : State) (p : ℕ) → acted M (TakeIntr p) ≡ at_spe M p (given (TakeIntr p))
unfolding acted
acted-take_intr M p = refl

pub acted-signal : (M : State) (p r value : ℕ) → acted M (SignalTo p r value) ≡ at_spe M p (given (SignalTo p r value))
unfolding acted
acted-signal M p r value = refl

pub acted-await : (M : State) (p : ℕ) → acted M (Await p) ≡ at_spe M p (given (Await p))
unfolding acted
acted-await M p = refl

pub acted-store : (M : State) (ea len : ℕ) (bytes : List ℕ) → is_some (acted M (Store ea len bytes)) ≡ true
unfolding acted
acted-store M ea len bytes = refl

pub store-leaves : (processors final : List Processor) (old new : SharedMemory) (host : Progress) (M : State) (ea len : ℕ) (bytes : List ℕ) (t : Taken) (losers : ℕ)
    → Shows processors old host M → AreSettled M.spes → length processors ≤ 16
    → ShowsMemory new (stored M.memory ea (take len bytes)) (reservations M.spes) → Loses losers M.memory (reservations M.spes) (stored M.memory ea (take len bytes))
    → ((spes : List Spe) → AllTwo ShowsSpe processors spes → AllTwo ShowsSpe final (map (lost_by losers) (enumerate_from 0 spes)))
    → t.value ≡ None → Leaves M (Some t) (acted M (Store ea len bytes)) final new host
unfolding acted
store-leaves processors final old new host M ea len bytes t losers shows all few does loses spreads took =
    (store-ends old new processors final M (stored M.memory ea (take len bytes)) losers shows all few does loses spreads, sym took)

-- the next action, where there is one
pub got : {X : Type 0} (xs : List X) (i : ℕ) (x : X) → slice_get xs i ≡ Some x → (i < length xs) × (slice_index_or xs i x ≡ x)
got [] i x h = absurd (cc)
got (y ∷ ys) zero x h = (omega arith, (cc))
got (y ∷ ys) (suc i) x h = let r = got ys i x h in let l = r.0 in (omega arith, r.1)

pub all-got : {X : Type 0} (Q : X → Type 0) (xs : List X) (i : ℕ) (x : X) → All Q xs → slice_get xs i ≡ Some x → Q x
all-got Q xs i x all h = let r = got xs i x h in subst Q r.1 (all i x r.0)

pub next-takes : (host : Progress) (a : HostAction) → slice_get host.script host.done ≡ Some a → next_takes host ≡ takes a
next-takes host a h = rw h refl

pub advanced-script : (host : Progress) (o : Option ℕ) → (advanced host o).script ≡ host.script
advanced-script host None = refl
advanced-script host (Some value) = refl
