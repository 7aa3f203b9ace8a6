-- A command that has just come into the queue stalls nothing.
use Rattle.std.proofs.Common.{◌≡◌, ℕ, zero, suc, ◌+◌, ◌<◌, ◌≤◌, refl, ◌∙◌, ap, arith, Bool, true, false, List, [], ◌∷◌, ◌++◌, length, map, Option, Some, None, cond, inl, inr, append-nil, ◌^◌}
use Rattle.std.specs.Prelude.{◌⊎◌, ◌==◌, ◌&&◌, ◌||◌, slice_get, bit_or}
use Rattle.std.specs.List.{range_with_len, filter_map, filter, fold, cons_option, last_or}
use Rattle.std.specs.Option.{option_map, option_map_or}
use Rattle.std.proofs.lemmas.Bool.{cases_Bool, eq-eqb}
use Rattle.std.proofs.lemmas.List.{length-append}
use Rattle.std.proofs.lemmas.List.Elements.{filter-append}
use Rattle.cell_base.specs.declared.steps.Step.{Step}
use Rattle.cell_base.specs.declared.steps.Step.TheVariants.{Exec, Piece, Elem, Retire, Atomic, Host}
use Rattle.mfc_command.specs.declared.command.Command.{Command}
use Rattle.mfc_command.specs.Order.{with_group, is_list}
use Rattle.mfc_lists.specs.declared.Element.{Element}
use Rattle.cell_machine.specs.Spe.{Spe, Moves, ElementRead}
use Rattle.cell_machine.specs.Moves.{read_of, present, stall_of, is_stalled}
use Rattle.cell_machine.specs.Channels.{with_issued}
use Rattle.cell_machine.proofs.Same.{get-left, get-last}
use Rattle.reorder_laws.specs.Cuts.{has}
use Rattle.reorder_laws.specs.Recorded.{Recorded, spe_before, is_elem, element_by, element_at, stalled_groups, is_stalled_number}
use Rattle.reorder_laws.proofs.Stalling.{single_not}
use Rattle.reorder_laws.proofs.Runs.{range_next}

elem_cmd : (p n : ℕ) (s : Step) (X : Spe) (x : ElementRead) → element_by p s X ≡ Some x → (x.cmd == n) ≡ true → is_elem p n s ≡ true
elem_cmd p n (Exec q) X x e h = absurd (cc)
elem_cmd p n (Piece q c a k) X x e h = absurd (cc)
elem_cmd p n (Retire q c) X x e h = absurd (cc)
elem_cmd p n (Atomic q) X x e h = absurd (cc)
elem_cmd p n Host X x e h = absurd (cc)
elem_cmd p n (Elem q c) X x e h = on (q == p) (last_or None (read_of X.moves.read c)) e
  where
    on : (b : Bool) (o : Option Element) → cond b (option_map (λ y. record { cmd = c; element = y }) o) None ≡ Some x → (b && (c == n)) ≡ true
    on false o f = absurd (cc)
    on true None f = absurd (cc)
    on true (Some y) f = let q : record { cmd = c; element = y } ≡ x = cc in ap (λ (x : ElementRead). x.cmd == n) q ∙ h

pub none_read : (r : Recorded) (p n : ℕ) (E : List ℕ) → ((i : ℕ) → has E i ≡ true → is_elem p n (r.step i) ≡ true → ⊥) → read_of (filter_map (element_at r p) E) n ≡ []
unfolding read_of has
none_read r p n [] h = refl
none_read r p n (i ∷ E) h = on (element_at r p i) refl (none_read r p n E (λ k t. h k (ap (λ b. (i == k) || b) t ∙ or_true (i == k))))
  where
    or_true : (x : Bool) → (x || true) ≡ true
    or_true true = refl
    or_true false = refl

    on : (o : Option ElementRead) → element_at r p i ≡ o → read_of (filter_map (element_at r p) E) n ≡ [] → read_of (cons_option o (filter_map (element_at r p) E)) n ≡ []
    on None e rec = rec
    on (Some x) e rec = go (cases_Bool (x.cmd == n))
      where
        go : ((x.cmd == n) ≡ true) ⊎ ((x.cmd == n) ≡ false) → map (λ (y : ElementRead). y.element) (cond (x.cmd == n) (x ∷ filter (λ y. y.cmd == n) (filter_map (element_at r p) E)) (filter (λ y. y.cmd == n) (filter_map (element_at r p) E))) ≡ []
        go (inl t) = absurd (h i (ap (λ b. b || has E i) (eq-eqb i i refl)) (elem_cmd p n (r.step i) (spe_before r p (suc i)) x e t))
        go (inr t) = ap (λ b. map (λ (y : ElementRead). y.element) (cond b (x ∷ filter (λ y. y.cmd == n) (filter_map (element_at r p) E)) (filter (λ y. y.cmd == n) (filter_map (element_at r p) E)))) t ∙ rec

pub list_not : (m : Moves) (n : ℕ) (d : Command) → is_list d.kind ≡ true → read_of m.read n ≡ [] → is_stalled m n d ≡ false
unfolding stall_of present
list_not m n d t e = rw (t, e) refl

still : (m : Moves) (d : Command) (c : ℕ) (x : Command) → is_stalled (with_issued m d) c x ≡ is_stalled m c x
unfolding stall_of
still m d c x = refl

unread_not : (m : Moves) (n : ℕ) (d : Command) → read_of m.read n ≡ [] → is_stalled m n d ≡ false
unread_not m n d e = go (cases_Bool (is_list d.kind))
  where
    go : (is_list d.kind ≡ true) ⊎ (is_list d.kind ≡ false) → is_stalled m n d ≡ false
    go (inl t) = list_not m n d t e
    go (inr t) = single_not m n d t

fold_same : (f g : ℕ → ℕ → ℕ) (s t : ℕ → Bool) (b a k n : ℕ) → a + k ≤ n → ((c : ℕ) → c < n → (x : ℕ) → f x c ≡ g x c) → ((c : ℕ) → c < n → s c ≡ t c) → fold f b (filter s (range_with_len a k)) ≡ fold g b (filter t (range_with_len a k))
fold_same f g s t b a zero n h u v = refl
fold_same f g s t b a (suc k) n h u v =
    ap (λ x. fold f b (cond x (a ∷ filter s (range_with_len (a + 1) k)) (filter s (range_with_len (a + 1) k)))) (v a (omega (arith, h)))
    ∙ on (t a) (λ b. fold_same f g s t b (a + 1) k n (omega (arith, h)) u v)
  where
    on : (x : Bool) → ((b : ℕ) → fold f b (filter s (range_with_len (a + 1) k)) ≡ fold g b (filter t (range_with_len (a + 1) k)))
        → fold f b (cond x (a ∷ filter s (range_with_len (a + 1) k)) (filter s (range_with_len (a + 1) k))) ≡ fold g b (cond x (a ∷ filter t (range_with_len (a + 1) k)) (filter t (range_with_len (a + 1) k)))
    on true rec = rec (f b a) ∙ ap (λ y. fold g y (filter t (range_with_len (a + 1) k))) (u a (omega (arith, h)) b)
    on false rec = rec b

pub groups_fresh : (m : Moves) (d : Command) → read_of m.read (length m.issued) ≡ [] → stalled_groups (with_issued m d) ≡ stalled_groups m
unfolding stalled_groups
groups_fresh m d e =
    let n : ℕ = length m.issued in
    let ys : List Command = m.issued ++ d ∷ [] in
    let s : ℕ → Bool = is_stalled_number (with_issued m d) in
    let long : length ys ≡ suc n = length-append m.issued (d ∷ []) ∙ omega arith in
    let last : s n ≡ false = ap (λ o. option_map_or (is_stalled (with_issued m d) n) o false) (get-last m.issued d) ∙ unread_not (with_issued m d) n d e in
    ap (λ k. fold (with_group ys) 0 (filter s (range_with_len 0 k))) long
    ∙ ap (λ ks. fold (with_group ys) 0 (filter s ks)) (range_next n)
    ∙ ap (fold (with_group ys) 0) (filter-append s (range_with_len 0 n) (n ∷ []))
    ∙ ap (λ b. fold (with_group ys) 0 (filter s (range_with_len 0 n) ++ cond b (n ∷ []) [])) last
    ∙ ap (fold (with_group ys) 0) (append-nil (filter s (range_with_len 0 n)))
    ∙ fold_same (with_group ys) (with_group m.issued) s (is_stalled_number m) 0 0 n n (omega arith)
    (λ c low x. ap (λ o. bit_or x (option_map_or (λ (d : Command). 2 ^ d.tag) o 0)) (get-left m.issued (d ∷ []) c low))
    (λ c low. ap (λ o. option_map_or (is_stalled (with_issued m d) c) o false) (get-left m.issued (d ∷ []) c low) ∙ same_test c (slice_get m.issued c))
  where
    same_test : (c : ℕ) (o : Option Command) → option_map_or (is_stalled (with_issued m d) c) o false ≡ option_map_or (is_stalled m c) o false
    same_test c None = refl
    same_test c (Some x) = still m d c x
