-- Steps in the whole state: what is so of one processor's step lifted.
use Rattle.std.proofs.Common.{◌≡◌, ◌≢◌, ℕ, ◌+◌, refl, sym, ◌∙◌, ap, ap₂, subst, List, [], ◌∷◌, ◌++◌, length, map, slice_set, ◌⊎◌, inl, inr}
use Rattle.std.specs.Prelude.{Option, Some, None, slice_get, option_map, Bool, true, false, cond, ◌==◌, slice_range}
use Rattle.std.specs.Option.{option_map_or}
use Rattle.std.proofs.lemmas.List.{map-set, length-map}
use Rattle.std.specs.List.{enumerate_from}
use Rattle.std.proofs.lemmas.Option.{slice_get-map, slice_get_within}
use Rattle.std.proofs.lemmas.Bool.{cases_eq, eq-eqb, ne_eqb}
use Rattle.cell_base.specs.Bytes.{put}
use Rattle.cell_base.specs.declared.steps.Step.{Step}
use Rattle.cell_base.specs.declared.steps.Step.TheVariants.{Exec, Piece, Elem, Retire, Atomic, Host}
use Rattle.cell_machine.specs.declared.effect.Place.{Place}
use Rattle.cell_machine.specs.declared.effect.Place.TheVariants.{Memory, Local}
use Rattle.cell_machine.specs.declared.effect.Span.{Span}
use Rattle.cell_machine.specs.declared.effect.Effect.{Effect}
use Rattle.cell_machine.specs.Spe.{Spe}
use Rattle.cell_machine.specs.Memory.{MainMemory}
use Rattle.cell_machine.specs.State.{State}
use Rattle.cell_machine.specs.Tags.{settled}
use Rattle.cell_machine.specs.declared.signals.Delivery.{Delivery}
use Rattle.cell_machine.specs.Signals.{with_signal, sent_in}
use Rattle.cell_machine.specs.Raised.{events, bits_of, with_raised, raised_at, is_atomic_of}
use Rattle.cell_machine.specs.Transfers.{Left}
use Rattle.cell_machine.specs.Next.{act, next, ended_by, closed_in, with_events, own, with_left}
use Rattle.cell_machine.specs.Effects.{effect_of}
use Rattle.cell_machine.specs.EffectLaws.{bytes_of, bytes_in, new_bytes, same_place, put_in, at_store, bare, SameBut, DoesTheSame, maker}
use Rattle.cell_machine.specs.Written.{written_by}
use Rattle.cell_machine.proofs.Same.{some_same}
use Rattle.cell_machine.proofs.Alike.{left-alike, closed-alike, alike-store}
use Rattle.cell_machine.proofs.Raising.{at_time}
use Rattle.cell_machine.proofs.CommandsShown.{set-here, set-other}
use Rattle.cell_machine.proofs.BytesLaws.{length-put-same}
use Rattle.cell_machine.proofs.StepBytes.{own_effect, own_written, own_bytes, own_range, own_new, Leaves, own-leaves, none_is}
use Rattle.cell_machine.proofs.StepSame.{OwnSame, own-same, IsOwn, looks-own}

-- ---- lists of processors

-- the bytes of a store, of no processor none
abbrev pub store_of : List Spe → ℕ → List ℕ
store_of spes q = option_map_or (λ P. P.store) (slice_get spes q) []

settled_store : (o : Option Spe) → option_map_or (λ P. P.store) (option_map settled o) [] ≡ option_map_or (λ P. P.store) o []
settled_store None = refl
settled_store (Some P) = refl

pub store-settled : (spes : List Spe) (q : ℕ) → store_of (map settled spes) q ≡ store_of spes q
store-settled spes q = ap (λ o. option_map_or (λ P. P.store) o []) (slice_get-map settled spes q) ∙ settled_store (slice_get spes q)

-- the stores after the processor at p became Q
pub store-set : (spes : List Spe) (p q : ℕ) (P Q : Spe) (R : List ℕ → List ℕ → Type 0) → slice_get spes p ≡ Some P → (q ≡ p → R Q.store P.store) → ((s : List ℕ) → q ≢ p → R s s)
    → R (store_of (slice_set spes p Q) q) (store_of spes q)
store-set spes p q P Q R at here there = on (cases_eq q p)
  where
    on : (q ≡ p) ⊎ (q ≢ p) → R (store_of (slice_set spes p Q) q) (store_of spes q)
    on (inl e) = rw (e, at, set-here spes p Q (slice_get_within spes p P at)) (here e)
    on (inr ne) = let e = set-other spes p q Q (λ e. ne (sym e)) in rw e (there _ ne)

-- the stores after a step of processor p that left x: nothing that is delivered and raised changes one
ended_store : (M : State) (s : Step) (p : ℕ) (x : Left) (q : ℕ) → store_of (ended_by M s (with_left M p x)).spes q ≡ store_of (slice_set M.spes p x.spe) q
ended_store M s p x q =
    let base = slice_set M.spes p x.spe in
    sym (alike-store (map settled base) (closed_in M s (with_left M p x)).spes q (closed-alike M s (with_left M p x) base (left-alike M p x))) ∙ store-settled base q

off_same : {X : Type 0} (b : Bool) (x y : X) → b ≡ false → cond b x y ≡ y
off_same b x y h = rw h refl

on_same : {X : Type 0} (b : Bool) (x y : X) → b ≡ true → cond b x y ≡ x
on_same b x y h = rw h refl

-- all bytes after a step of processor p that left x
frame_at : (M : State) (s : Step) (p : ℕ) (P : Spe) (x : Left) (w : Place) (at : ℕ) (new : List ℕ) → slice_get M.spes p ≡ Some P → Leaves p w at new P M.memory x
    → (place : Place) → bytes_of (ended_by M s (with_left M p x)) place ≡ cond (same_place w place) (put (bytes_of M place) at new) (bytes_of M place)
frame_at M s p P x Memory at new is l Memory = l.1
frame_at M s p P x (Local r) at new is l Memory = l.2
frame_at M s p P x Memory at new is l (Local q) = ended_store M s p x q ∙ store-set M.spes p q P x.spe (λ u v. u ≡ v) is (λ e. l.0) (λ s ne. refl)
frame_at M s p P x (Local r) at new is l (Local q) =
    ended_store M s p x q
    ∙ store-set M.spes p q P x.spe (λ u v. u ≡ cond (r == q) (put v at new) v) is
    (λ e. l.1 ∙ sym (on_same (r == q) _ _ (eq-eqb r q (l.0 ∙ sym e))))
    (λ s ne. sym (off_same (r == q) _ _ (ne_eqb r q (λ e. ne (sym e ∙ l.0)))))

-- ---- a step as one of its processor

pub act-own : (M : State) (s : Step) (p : ℕ) (P : Spe) → maker s ≡ Some p → slice_get M.spes p ≡ Some P → act M s ≡ option_map (with_left M p) (own M.memory s P)
act-own M (Exec q) p P h at = let e : q ≡ p = some_same q p h in rw (e, at) refl
act-own M (Piece q c e0 k) p P h at = let e : q ≡ p = some_same q p h in rw (e, at) refl
act-own M (Elem q c) p P h at = let e : q ≡ p = some_same q p h in rw (e, at) refl
act-own M (Retire q c) p P h at = let e : q ≡ p = some_same q p h in rw (e, at) refl
act-own M (Atomic q) p P h at = let e : q ≡ p = some_same q p h in rw (e, at) refl
act-own M Host p P h at = none_is _ p h

pub effect-own : (M : State) (s : Step) (p : ℕ) (P : Spe) → maker s ≡ Some p → slice_get M.spes p ≡ Some P → effect_of M s ≡ own_effect (length M.spes) p M.memory s P
unfolding effect_of
effect-own M (Exec q) p P h at = let e : q ≡ p = some_same q p h in rw (e, at) refl
effect-own M (Piece q c e0 k) p P h at = let e : q ≡ p = some_same q p h in rw (e, at) refl
effect-own M (Elem q c) p P h at = let e : q ≡ p = some_same q p h in rw (e, at) refl
effect-own M (Retire q c) p P h at = let e : q ≡ p = some_same q p h in rw (e, at) refl
effect-own M (Atomic q) p P h at = let e : q ≡ p = some_same q p h in rw (e, at) refl
effect-own M Host p P h at = none_is _ p h

written-own : (M : State) (s : Step) (p : ℕ) (P : Spe) → maker s ≡ Some p → slice_get M.spes p ≡ Some P → written_by M s ≡ own_written M.memory s P
unfolding written_by
written-own M (Exec q) p P h at = let e : q ≡ p = some_same q p h in rw (e, at) refl
written-own M (Piece q c e0 k) p P h at = let e : q ≡ p = some_same q p h in rw (e, at) refl
written-own M (Elem q c) p P h at = refl
written-own M (Retire q c) p P h at = refl
written-own M (Atomic q) p P h at = let e : q ≡ p = some_same q p h in rw (e, at) refl
written-own M Host p P h at = none_is _ p h

bytes_own_at : (M : State) (p : ℕ) (P : Spe) (w : Place) → slice_get M.spes p ≡ Some P → IsOwn p w → bytes_of M w ≡ own_bytes w M.memory.bytes P.store
bytes_own_at M p P Memory is own = refl
bytes_own_at M p P (Local q) is own = rw (own, is) refl

pub bytes-own : (M : State) (p : ℕ) (P : Spe) (w : Place) → slice_get M.spes p ≡ Some P → IsOwn p w → bytes_of M w ≡ own_bytes w M.memory.bytes P.store
bytes-own M p P w is own = bytes_own_at M p P w is own

range-own : (M : State) (p : ℕ) (P : Spe) (x : Span) → slice_get M.spes p ≡ Some P → IsOwn p x.place → bytes_in M x ≡ own_range x M.memory.bytes P.store
range-own M p P x is own = ap (λ b. slice_range b x.at (x.at + x.len)) (bytes-own M p P x.place is own)

own_next : (M N : State) (s : Step) (p : ℕ) (o : Option Left) → option_map (ended_by M s) (option_map (with_left M p) o) ≡ Some N → (x : Left) × (o ≡ Some x) × (ended_by M s (with_left M p x) ≡ N)
own_next M N s p None h = none_is _ N h
own_next M N s p (Some x) h = (x, refl, some_same _ N h)

-- what an allowed step of processor p left
pub next-own : (M N : State) (s : Step) (p : ℕ) (P : Spe) → maker s ≡ Some p → slice_get M.spes p ≡ Some P → next M s ≡ Some N → (x : Left) × (own M.memory s P ≡ Some x) × (ended_by M s (with_left M p x) ≡ N)
next-own M N s p P by at is = own_next M N s p (own M.memory s P) (sym (ap (option_map (ended_by M s)) (act-own M s p P by at)) ∙ is)

pub new-own : (M : State) (s : Step) (p : ℕ) (P : Spe) (e : Effect) → maker s ≡ Some p → slice_get M.spes p ≡ Some P → IsOwn p e.reads.place → new_bytes M s e ≡ own_new M.memory s P e
new-own M s p P e by at own = let w = written-own M s p P by at in let r = range-own M p P e.reads at own in rw (w, r) refl

pub frame-own : (M N : State) (s : Step) (p : ℕ) (P : Spe) (e : Effect) → maker s ≡ Some p → slice_get M.spes p ≡ Some P → next M s ≡ Some N → effect_of M s ≡ Some e
    → (place : Place) → bytes_of N place ≡ put_in e.writes (new_bytes M s e) place (bytes_of M place)
frame-own M N s p P e by at is effect place =
    let made = next-own M N s p P by at is in
    let f : own_effect (length M.spes) p M.memory s P ≡ Some e = sym (effect-own M s p P by at) ∙ effect in
    let l = own-leaves (length M.spes) p M.memory s P made.0 e made.1 f in
    let n : own_new M.memory s P e ≡ new_bytes M s e = sym (new-own M s p P e by at (looks-own (length M.spes) p M.memory s P made.0 e made.1 f).1) in
    ap (λ K. bytes_of K place) (sym made.2) ∙ frame_at M s p P made.0 e.writes.place e.writes.at (own_new M.memory s P e) at l place
    ∙ ap (λ b. put_in e.writes b place (bytes_of M place)) n

-- a step that no processor that is there makes has no effect
absent : (M : State) (s : Step) (p : ℕ) (e : Effect) (Q : Type 0) → maker s ≡ Some p → slice_get M.spes p ≡ None → effect_of M s ≡ Some e → Q
unfolding effect_of
absent M (Exec q) p e Q h at is = let f : q ≡ p = some_same q p h in none_is Q e (rw (f, at) at is)
absent M (Piece q c e0 k) p e Q h at is = let f : q ≡ p = some_same q p h in none_is Q e (rw (f, at) at is)
absent M (Elem q c) p e Q h at is = let f : q ≡ p = some_same q p h in none_is Q e (rw (f, at) at is)
absent M (Retire q c) p e Q h at is = let f : q ≡ p = some_same q p h in none_is Q e (rw (f, at) at is)
absent M (Atomic q) p e Q h at is = let f : q ≡ p = some_same q p h in none_is Q e (rw (f, at) at is)
absent M Host p e Q h at is = none_is Q p h

-- the processor of a step that has an effect
pub there : (M : State) (s : Step) (p : ℕ) (e : Effect) (Q : Type 0) → maker s ≡ Some p → effect_of M s ≡ Some e → ((P : Spe) → slice_get M.spes p ≡ Some P → Q) → Q
there M s p e Q by is k = on (slice_get M.spes p) refl
  where
    on : (o : Option Spe) → slice_get M.spes p ≡ o → Q
    on None at = absent M s p e Q by at is
    on (Some P) at = k P at

-- ---- states that differ in bytes alone

bare_settled : (spes : List Spe) → map bare (map settled spes) ≡ map settled (map bare spes)
bare_settled [] = refl
bare_settled (P ∷ spes) = ap (λ xs. settled (bare P) ∷ xs) (bare_settled spes)

bare_found : (o : Option Spe) (P : Spe) → option_map bare o ≡ Some (bare P) → (s : List ℕ) × (o ≡ Some (at_store P s))
bare_found None P h = none_is _ (bare P) h
bare_found (Some Q) P h = (Q.store, ap (λ X. Some (at_store X Q.store)) (some_same (bare Q) (bare P) h))

-- the processor at p of the other state
pub same-at : (M N : State) (p : ℕ) (P : Spe) → SameBut M N → slice_get M.spes p ≡ Some P → (s : List ℕ) × (slice_get N.spes p ≡ Some (at_store P s))
same-at M N p P same at =
    bare_found (slice_get N.spes p) P (sym (slice_get-map bare N.spes p) ∙ ap (λ xs. slice_get xs p) (sym same.spes) ∙ slice_get-map bare M.spes p ∙ ap (option_map bare) at)

pub bare-set : (xs ys : List Spe) (p : ℕ) (P Q : Spe) → map bare xs ≡ map bare ys → bare P ≡ bare Q → map bare (slice_set xs p P) ≡ map bare (slice_set ys p Q)
bare-set xs ys p P Q h g = map-set bare xs p P ∙ ap₂ (λ zs X. slice_set zs p X) h g ∙ sym (map-set bare ys p Q)

-- a value that is delivered
bare_sent : (xs : List Spe) (o : Option Delivery) → map bare (sent_in xs o) ≡ sent_in (map bare xs) o
bare_sent xs None = refl
bare_sent xs (Some d) = on (slice_get xs d.spe) ∙ ap (λ o. option_map_or (λ P. slice_set (map bare xs) d.spe (with_signal P d.register d.value)) o (map bare xs)) (sym (slice_get-map bare xs d.spe))
  where
    on : (o : Option Spe) → map bare (option_map_or (λ P. slice_set xs d.spe (with_signal P d.register d.value)) o xs)
        ≡ option_map_or (λ P. slice_set (map bare xs) d.spe (with_signal P d.register d.value)) (option_map bare o) (map bare xs)
    on None = refl
    on (Some P) = map-set bare xs d.spe (with_signal P d.register d.value)

bare_left : (M N : State) (p : ℕ) (x y : Left) → map bare M.spes ≡ map bare N.spes → bare y.spe ≡ bare x.spe → y.sent ≡ x.sent → map bare (with_left M p x).spes ≡ map bare (with_left N p y).spes
bare_left M N p x y spes same sent =
    bare_sent (slice_set M.spes p x.spe) x.sent ∙ ap₂ (λ xs o. sent_in xs o) (bare-set M.spes N.spes p x.spe y.spe spes (sym same)) (sym sent) ∙ sym (bare_sent (slice_set N.spes p y.spe) y.sent)

-- events look at no byte
abbrev no_bytes : List ℕ → MainMemory
no_bytes versions = record { bytes = []; versions = versions }

abbrev raised_of : List Spe → List Spe → List ℕ → List ℕ → Step → ℕ → ℕ
raised_of old new v w s q =
    option_map_or (λ P. option_map_or (λ Q. bits_of (events (at_time P (no_bytes v)) (at_time Q (no_bytes w)) (is_atomic_of q s))) (slice_get new q) 0) (slice_get old q) 0

raised_bare : (M : State) (s : Step) (K : State) (q : ℕ) → raised_at M s K q ≡ raised_of (map bare M.spes) (map bare K.spes) M.memory.versions K.memory.versions s q
unfolding raised_at
raised_bare M s K q = rw (slice_get-map bare M.spes q, slice_get-map bare K.spes q) (on (slice_get M.spes q) (slice_get K.spes q))
  where
    on : (o r : Option Spe) → option_map_or (λ was. option_map_or (λ now. bits_of (events was now (is_atomic_of q s))) (option_map (λ P. at_time P K.memory) r) 0) (option_map (λ P. at_time P M.memory) o) 0
        ≡ option_map_or (λ P. option_map_or (λ Q. bits_of (events (at_time P (no_bytes M.memory.versions)) (at_time Q (no_bytes K.memory.versions)) (is_atomic_of q s))) (option_map bare r) 0) (option_map bare o) 0
    on None r = refl
    on (Some P) None = refl
    on (Some P) (Some Q) = refl

same_raised : (M N : State) (s : Step) (K L : State) (q : ℕ) → SameBut M N → map bare K.spes ≡ map bare L.spes → K.memory.versions ≡ L.memory.versions → raised_at M s K q ≡ raised_at N s L q
same_raised M N s K L q same spes versions =
    raised_bare M s K q ∙ ap₂ (λ xs ys. raised_of xs ys M.memory.versions K.memory.versions s q) same.spes spes
    ∙ ap₂ (λ v w. raised_of (map bare N.spes) (map bare L.spes) v w s q) same.versions versions ∙ sym (raised_bare N s L q)

numbered_bare : (g : ℕ → ℕ) (n : ℕ) (xs : List Spe) → map bare (map (λ x. with_raised x.1 (g x.0)) (enumerate_from n xs)) ≡ map (λ x. with_raised x.1 (g x.0)) (enumerate_from n (map bare xs))
numbered_bare g n [] = refl
numbered_bare g n (P ∷ xs) = ap (λ ys. with_raised (bare P) (g n) ∷ ys) (numbered_bare g (n + 1) xs)

numbered_same : (g h : ℕ → ℕ) (n : ℕ) (xs : List Spe) → ((q : ℕ) → g q ≡ h q) → map (λ x. with_raised x.1 (g x.0)) (enumerate_from n xs) ≡ map (λ x. with_raised x.1 (h x.0)) (enumerate_from n xs)
numbered_same g h n [] same = refl
numbered_same g h n (P ∷ xs) same = ap₂ (λ b ys. with_raised P b ∷ ys) (same n) (numbered_same g h (n + 1) xs same)

bare_events : (M N : State) (s : Step) (K L : State) → SameBut M N → map bare K.spes ≡ map bare L.spes → K.memory.versions ≡ L.memory.versions → map bare (with_events M s K).spes ≡ map bare (with_events N s L).spes
bare_events M N s K L same spes versions =
    numbered_bare (raised_at M s K) 0 K.spes ∙ ap (λ xs. map (λ x. with_raised x.1 (raised_at M s K x.0)) (enumerate_from 0 xs)) spes
    ∙ numbered_same (raised_at M s K) (raised_at N s L) 0 (map bare L.spes) (λ q. same_raised M N s K L q same spes versions)
    ∙ sym (numbered_bare (raised_at N s L) 0 L.spes)

pub same-ended : (M N : State) (s : Step) (K L : State) → SameBut M N → map bare K.spes ≡ map bare L.spes → length K.memory.bytes ≡ length L.memory.bytes → K.memory.versions ≡ L.memory.versions → K.host ≡ L.host
    → SameBut (ended_by M s K) (ended_by N s L)
same-ended M N s K L same spes long versions host = record {
  spes = bare_settled (with_events M s K).spes ∙ ap (map settled) (bare_events M N s K L same spes versions) ∙ sym (bare_settled (with_events N s L).spes);
  long = long;
  versions = versions;
  host = host;
  steps = ap (λ xs. xs ++ s ∷ []) same.steps;
}

leaves_long : (p : ℕ) (w : Place) (at : ℕ) (new : List ℕ) (P Q : Spe) (m n : MainMemory) (x y : Left) → Leaves p w at new P m x → Leaves p w at new Q n y → length m.bytes ≡ length n.bytes → length x.memory.bytes ≡ length y.memory.bytes
leaves_long p Memory at new P Q m n x y l k h = ap length l.1 ∙ length-put-same m.bytes n.bytes new at h ∙ ap length (sym k.1)
leaves_long p (Local q) at new P Q m n x y l k h = ap length l.2 ∙ h ∙ ap length (sym k.2)

pub same-own : (M N M2 : State) (s : Step) (p : ℕ) (P : Spe) (e : Effect) → maker s ≡ Some p → slice_get M.spes p ≡ Some P → SameBut M N → effect_of M s ≡ Some e → next M s ≡ Some M2
    → bytes_in M e.fetch ≡ bytes_in N e.fetch → bytes_in M e.reads ≡ bytes_in N e.reads → DoesTheSame M N s e M2
same-own M N M2 s p P e by at same effect is fetched read =
    let count : length M.spes ≡ length N.spes = sym (length-map M.spes bare) ∙ ap length same.spes ∙ length-map N.spes bare in
    let found = same-at M N p P same at in
    let s2 = found.0 in
    let P2 = at_store P s2 in
    let made = next-own M M2 s p P by at is in
    let x = made.0 in
    let f : own_effect (length M.spes) p M.memory s P ≡ Some e = sym (effect-own M s p P by at) ∙ effect in
    let looks = looks-own (length M.spes) p M.memory s P x e made.1 f in
    let ranges : (w : Span) → IsOwn p w.place → bytes_in M w ≡ bytes_in N w → own_range w M.memory.bytes P.store ≡ own_range w N.memory.bytes s2 =
    λ w o h. sym (range-own M p P w at o) ∙ h ∙ range-own N p P2 w found.1 o in
    let does0 = own-same (length M.spes) p M.memory N.memory.bytes s2 s P x e same.long made.1 f (ranges e.fetch looks.0 fetched) (ranges e.reads looks.1 read) in
    let does : OwnSame (length M.spes) p N.memory s P2 (own_new M.memory s P e) e x = subst (λ v. OwnSame (length M.spes) p (record { bytes = N.memory.bytes; versions = v }) s P2 (own_new M.memory s P e) e x) same.versions does0 in
    let K = with_left N p does.y in
    let l = own-leaves (length M.spes) p M.memory s P x e made.1 f in
    let l2 = own-leaves (length M.spes) p N.memory s P2 does.y e does.is does.effect in
    let l3 = subst (λ b. Leaves p e.writes.place e.writes.at b P2 N.memory does.y) does.new_is l2 in
    let acts : act N s ≡ Some K = act-own N s p P2 by found.1 ∙ ap (option_map (with_left N p)) does.is in
    record {
      effect = effect-own N s p P2 by found.1 ∙ ap (λ n. own_effect n p N.memory s P2) (sym count) ∙ does.effect;
      new = new-own N s p P2 e by found.1 looks.1 ∙ does.new_is ∙ sym (new-own M s p P e by at looks.1);
      after = ended_by N s K;
      next_is = ap (option_map (ended_by N s)) acts;
      same = subst (λ A. SameBut A (ended_by N s K)) made.2
          (same-ended M N s (with_left M p x) K same (bare_left M N p x does.y same.spes does.same does.sent)
          (leaves_long p e.writes.place e.writes.at (own_new M.memory s P e) P P2 M.memory N.memory x does.y l l3 same.long) (sym does.versions) same.host);
    }
