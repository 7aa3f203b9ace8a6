-- An allowed step may come after the steps before it.
use Rattle.std.proofs.Common.{◌≡◌, ℕ, zero, suc, ◌+◌, ◌*◌, ◌<◌, ◌≤◌, ◌==◌, ◌&&◌, not, Bool, true, false, List, [], ◌∷◌, length, arith, refl, sym, ◌∙◌, ap, subst, true≢false, ◌⊎◌, inl, inr}
use Rattle.std.specs.Prelude.{Some, None, slice_get, cond, option_map, nat_lt, filter, if◌then◌else◌}
use Rattle.std.specs.List.{last_or, range_with_len}
use Rattle.std.specs.Option.{option_map_or}
use Rattle.std.proofs.lemmas.Bool.Decides.{nat_tests}
use Rattle.cell_base.specs.declared.steps.Step.{Step}
use Rattle.cell_base.specs.declared.steps.Step.TheVariants.{Exec, Piece, Elem, Retire, Atomic, Host}
use Rattle.mfc_command.specs.declared.command.Command.{Command}
use Rattle.mfc_command.specs.Order.{is_list, precedes, goes_before}
use Rattle.mfc_command.specs.Parts.{parts_of}
use Rattle.mfc_lists.specs.declared.Element.{Element}
use Rattle.cell_machine.specs.declared.effect.Note.{Note}
use Rattle.cell_machine.specs.declared.effect.Note.TheVariants.{Nothing, Issue, AtomicIssue, TagRead, StallRead, Ack, AtomicRead, Put, Take, Ended, Awaited, Element as Reading, Signal}
use Rattle.cell_machine.specs.declared.effect.Effect.{Effect}
use Rattle.cell_machine.specs.Spe.{Spe, Moves, PartDone, is_faulted}
use Rattle.cell_machine.specs.EffectLaws.{maker}
use Rattle.cell_machine.specs.Moves.{is_moved, read_of, whole, elements_of, present, parts_in, is_done, may_begin}
use Rattle.cell_machine.specs.MovesShown.{AreElements}
use Rattle.cell_machine.specs.Transfers.{has_part, has_element}
use Rattle.cell_machine.proofs.Same.{some_same, eq_same, eq_is, complete-at}
use Rattle.cell_machine.proofs.Staying.{both}
use Rattle.cell_machine.proofs.Elements.{part-is, last-number, list-elements, present-last}
use Rattle.cell_machine.proofs.Completion.{begun}
use Rattle.race_order.specs.declared.progress.Progress.{Progress}
use Rattle.race_order.specs.Trace.{Trace, is_of, is_put, is_take, puts, takes, mailbox_size}
use Rattle.race_order.specs.Status.{begun as starts, is_transfer, first_status, issued_as}
use Rattle.race_order.specs.Queue.{Has}
use Rattle.race_order.specs.Stages.{parts_left, progress_of}
use Rattle.race_order.specs.Orderly.{IsNoted, MayCome}
use Rattle.race_order.specs.Premises.{FitsProgress, IsNumbered, IsQuiet, IsDelivery, IsNext, QueueMay, IsOnePiece}
use Rattle.race_order.proofs.Moving.{IsFit, transfers, no-transfer, piece-shape, count-shape, retire-shape}
use Rattle.race_order.proofs.Small.{get-there}
use Rattle.race_order.proofs.Telling.{BoxStep, one_if}
use Rattle.race_order.proofs.Turns.{own-command, Works, TellsPiece, rests, issues, acks, copies, reads, fails, retires}
use Rattle.race_order.proofs.Comings.{Came}
use Rattle.race_order.proofs.SpeKeeping.{HoldsBox, SpeKeeps, has-come, issued-next}

-- what holds of all processors
pub record AllKeep (trace : Trace) (spes : List Spe) : Type 0 where
  pub each : (p : ℕ) (P : Spe) → slice_get spes p ≡ Some P → SpeKeeps p trace P

-- ---- the mailboxes

named-take : (n q m : ℕ) (note : Note) → is_take q m note ≡ true → IsNoted n note → (q < n) × (m < 3)
named-take n q m (Take r k) h low = let same = both (r == q) (k == m) h in let a = eq_is r q same.0 in let b = eq_is k m same.1 in (subst (λ x. x < n) a low.0, subst (λ x. x < 3) b low.1)
named-take n q m Nothing h low = absurd (true≢false (sym h))
named-take n q m (Issue c d) h low = absurd (true≢false (sym h))
named-take n q m AtomicIssue h low = absurd (true≢false (sym h))
named-take n q m (TagRead g i) h low = absurd (true≢false (sym h))
named-take n q m (StallRead g) h low = absurd (true≢false (sym h))
named-take n q m (Ack t) h low = absurd (true≢false (sym h))
named-take n q m AtomicRead h low = absurd (true≢false (sym h))
named-take n q m (Put r k) h low = absurd (true≢false (sym h))
named-take n q m (Signal x r) h low = absurd (true≢false (sym h))
named-take n q m Ended h low = absurd (true≢false (sym h))
named-take n q m (Awaited r) h low = absurd (true≢false (sym h))
named-take n q m (Reading x y z) h low = absurd (true≢false (sym h))

named-put : (n q m : ℕ) (note : Note) → is_put q m note ≡ true → IsNoted n note → (q < n) × (m < 3) × (is_take q m note ≡ false)
named-put n q m (Put r k) h low = let same = both (r == q) (k == m) h in let a = eq_is r q same.0 in let b = eq_is k m same.1 in (subst (λ x. x < n) a low.0, subst (λ x. x < 3) b low.1, refl)
named-put n q m Nothing h low = absurd (true≢false (sym h))
named-put n q m (Issue c d) h low = absurd (true≢false (sym h))
named-put n q m AtomicIssue h low = absurd (true≢false (sym h))
named-put n q m (TagRead g i) h low = absurd (true≢false (sym h))
named-put n q m (StallRead g) h low = absurd (true≢false (sym h))
named-put n q m (Ack t) h low = absurd (true≢false (sym h))
named-put n q m AtomicRead h low = absurd (true≢false (sym h))
named-put n q m (Take r k) h low = absurd (true≢false (sym h))
named-put n q m (Signal x r) h low = absurd (true≢false (sym h))
named-put n q m Ended h low = absurd (true≢false (sym h))
named-put n q m (Awaited r) h low = absurd (true≢false (sym h))
named-put n q m (Reading x y z) h low = absurd (true≢false (sym h))

not-both : (q m : ℕ) (note : Note) → is_take q m note ≡ true → is_put q m note ≡ false
not-both q m (Take r k) h = refl
not-both q m (Put r k) h = absurd (true≢false (sym h))
not-both q m Nothing h = refl
not-both q m (Issue c d) h = refl
not-both q m AtomicIssue h = refl
not-both q m (TagRead g i) h = refl
not-both q m (StallRead g) h = refl
not-both q m (Ack t) h = refl
not-both q m AtomicRead h = refl
not-both q m (Signal x r) h = refl
not-both q m Ended h = refl
not-both q m (Awaited r) h = refl
not-both q m (Reading x y z) h = refl

-- what a step may do to one mailbox
record BoxMay (q m : ℕ) (before : Trace) (note : Note) : Type 0 where
  full : is_take q m note ≡ true → takes q m before < puts q m before
  free : is_put q m note ≡ true → puts q m before < takes q m before + mailbox_size m

box_may : (q m : ℕ) (before : Trace) (note : Note) (xs ys : List ℕ) → HoldsBox q m before xs → BoxStep q m note (length xs) (length ys) → BoxMay q m before note
box_may q m before note xs ys holds step = record {
  full = λ h.
      let moved = step.moved in
      let put : one_if (is_put q m note) ≡ 0 = ap one_if (not-both q m note h) in
      let taken : one_if (is_take q m note) ≡ 1 = ap one_if h in
      omega (arith, moved, put, taken, holds);
  free = λ h. let room = step.free h in omega (arith, room, holds);
}

by_number : (m : ℕ) (T : ℕ → Type 0) → m < 3 → T 0 → T 1 → T 2 → T m
by_number zero T h a b c = a
by_number (suc zero) T h a b c = b
by_number (suc (suc zero)) T h a b c = c
by_number (suc (suc (suc m))) T h a b c = absurd (omega (arith, h))

boxes_may : (old new : List Spe) (before : Trace) (s : Step) (e : Effect) (q m : ℕ) → AllKeep before old → Came old new s e → q < length old → m < 3 → BoxMay q m before e.note
boxes_may old new before s e q m keep came low small =
    let there = get-there old q low in
    let P = there.0 in
    let k = keep.each q P there.1 in
    let to = came.each q P there.1 in
    let turn = to.2 in
    by_number m (λ j. BoxMay q j before e.note) small
    (box_may q 0 before e.note P.inbound to.0.inbound k.inbound turn.inbound)
    (box_may q 1 before e.note P.outbound to.0.outbound k.outbound turn.outbound)
    (box_may q 2 before e.note P.interrupt to.0.interrupt k.interrupt turn.interrupt)

-- ---- by all rules but those of the queue

pub may-come : (old new : List Spe) (before : Trace) (s : Step) (e : Effect) → AllKeep before old → Came old new s e → MayCome (length old) before (record { step = s; effect = e })
may-come old new before s e keep came = record {
  within = came.within;
  noted = came.noted;
  slot = λ p is.
      let asks = came.asks p (ap maker is) in
      (keep.each p asks.0 asks.1).slot (asks.2.atomic is);
  full = λ q m h. let named = named-take (length old) q m e.note h came.noted in (boxes_may old new before s e q m keep came named.0 named.1).full h;
  free = λ q m h. let named = named-put (length old) q m e.note h came.noted in (boxes_may old new before s e q m keep came named.0 named.1).free h;
}

-- ---- the queue

-- a step of a command is one of its processor
step_maker : (p d : ℕ) (s : Step) → is_of p d s ≡ true → maker s ≡ Some p
step_maker p d (Piece q c e k) h = ap Some (eq_is q p (both (q == p) (c == d) h).0)
step_maker p d (Elem q c) h = ap Some (eq_is q p (both (q == p) (c == d) h).0)
step_maker p d (Retire q c) h = ap Some (eq_is q p (both (q == p) (c == d) h).0)
step_maker p d (Exec q) h = absurd (true≢false (sym h))
step_maker p d (Atomic q) h = absurd (true≢false (sym h))
step_maker p d Host h = absurd (true≢false (sym h))

-- which command it is, and that the step fits how far it has come
record Fitting (m : Moves) (d : ℕ) (s : Step) (note : Note) : Type 0 where
  command : Command
  at : slice_get m.issued d ≡ Some command
  live : (progress_of m d command).done ≡ false
  fits : FitsProgress (progress_of m d command) s note
  quiet : IsQuiet note
  delivery : IsDelivery (progress_of m d command) note

part_fits : (p c e k : ℕ) (m : Moves) (d : Command) (note : Note) → IsFit d → AreElements m c d → has_part m c e k d ≡ true → FitsProgress (progress_of m c d) (Piece p c e k) note
part_fits p c e k m d note fit els has =
    let gone = piece-shape m c e k d fit els has in
    let of = part-is m c e k d has in
    (gone.left, on of.element of.there of.number of.moved (is_list d.kind) refl)
  where
    on : (x : Element) → present m.read c d ≡ Some x → x.number ≡ e → is_moved d ≡ true → (b : Bool) → is_list d.kind ≡ b
        → ((is_transfer d ≡ true) × (e ≡ 0)) ⊎ ((is_transfer d ≡ false) × (e + 1 ≡ (progress_of m c d).read))
    on x there number moved false list =
        let els_one : elements_of m.read c d ≡ whole d ∷ [] = ap (λ b. cond b (read_of m.read c) (whole d ∷ [])) list in
        let same : whole d ≡ x = some_same (whole d) x (sym (present-last m.read c d ∙ ap (λ xs. last_or None xs) els_one) ∙ there) in
        inl (transfers d list moved, sym number ∙ ap (λ (y : Element). y.number) (sym same))
    on x there number moved true list =
        let last = last-number m c d x els there in
        let size : length (elements_of m.read c d) ≡ length (read_of m.read c) = ap length (list-elements m.read c d list) in
        inr (no-transfer d list, (let n : x.number ≡ e = number in omega (arith, n, last, size)) ∙ sym (ap (λ b. if b then length (read_of m.read c) else 0) list))

-- no more is left than there are parts
few_left : (f : ℕ → Bool) (a n : ℕ) → length (filter f (range_with_len a n)) ≤ n
few_left f a zero = omega arith
few_left f a (suc n) = on (f a) (few_left f (a + 1) n)
  where
    on : (b : Bool) → length (filter f (range_with_len (a + 1) n)) ≤ n → length (cond b (a ∷ filter f (range_with_len (a + 1) n)) (filter f (range_with_len (a + 1) n))) ≤ suc n
    on true h = omega (arith, h)
    on false h = omega (arith, h)

left_few : (done : List PartDone) (c : ℕ) (x : Element) → parts_left done c x ≤ parts_in x
unfolding parts_left
left_few done c x = few_left (λ k. not (is_done done c x.number k)) 0 (parts_in x)

-- a piece tells of no mailbox; one that delivers a signal is the last one
piece_told : (m : Moves) (c e k : ℕ) (d : Command) (note : Note) → IsFit d → AreElements m c d → has_part m c e k d ≡ true → TellsPiece d note → IsQuiet note × IsDelivery (progress_of m c d) note
piece_told m c e k d note fit els has (inl h) = subst (λ x. IsQuiet x × IsDelivery (progress_of m c d) x) (sym h) (tt, tt)
piece_told m c e k d note fit els has (inr h) = subst (λ x. IsQuiet x × IsDelivery (progress_of m c d) x) (sym h.1.2) (tt, (one.0, only))
  where
    one : (is_transfer d ≡ true) × (parts_of d.ea d.size ≡ 1)
    one = fit.one_signal h.0

    single : is_list d.kind ≡ false
    single = on (is_list d.kind) refl
      where
        on : (b : Bool) → is_list d.kind ≡ b → is_list d.kind ≡ false
        on false list = list
        on true list = absurd (true≢false (sym one.0 ∙ no-transfer d list))

    some : 0 < (progress_of m c d).left
    some = (piece-shape m c e k d fit els has).left

    there : present m.read c d ≡ Some (whole d)
    there = present-last m.read c d ∙ ap (λ xs. last_or None xs) (ap (λ b. cond b (read_of m.read c) (whole d ∷ [])) single)

    few : (progress_of m c d).left ≤ 1
    few = on (is_moved d)
      where
        on : (b : Bool) → (if b then option_map_or (parts_left m.done c) (present m.read c d) 0 else 0) ≤ 1
        on false = omega arith
        on true = subst (λ o. option_map_or (parts_left m.done c) o 0 ≤ 1) (sym there) (subst (λ n. parts_left m.done c (whole d) ≤ n) one.1 (left_few m.done c (whole d)))

    only : (progress_of m c d).left ≡ 1
    only = omega (arith, some, few)

few_read : (n size : ℕ) → 8 * n < size → size ≤ 16384 → n < 65534
few_read n size h k = omega (arith, h, k)

count_fits : (p c : ℕ) (m : Moves) (d : Command) (note : Note) → IsFit d → AreElements m c d → has_element m c d ≡ true → (length (read_of m.read c) < 65534 → IsNumbered (progress_of m c d).read note) → FitsProgress (progress_of m c d) (Elem p c) note
count_fits p c m d note fit els has numbered =
    let may = count-shape m c d fit els has in
    (no-transfer d may.list, may.left, may.stalls, numbered (few_read (length (read_of m.read c)) d.size may.more (fit.small_list may.list)))

fitting : (p d : ℕ) (s : Step) (note : Note) (P Q : Spe) (before : Trace) → SpeKeeps p before P → Works p s note P.moves Q.moves (is_faulted Q.status) → is_of p d s ≡ true → Fitting P.moves d s note
fitting p d s note P Q before keep works of = on works
  where
    number : (c : ℕ) → is_of p d s ≡ is_of p d (Elem p c) → c ≡ d
    number c same = own-command p c d (sym same ∙ of)

    no_step : (t : Step) → s ≡ t → is_of p d t ≡ false → Fitting P.moves d s note
    no_step t is off = absurd (true≢false (sym of ∙ ap (is_of p d) is ∙ off))

    as_own : (c : ℕ) → c ≡ d → Fitting P.moves c s note → Fitting P.moves d s note
    as_own c same f = subst (λ j. Fitting P.moves j s note) same f

    with_step : (t : Step) (k : Note) (c : ℕ) → s ≡ t → note ≡ k → Fitting P.moves c t k → Fitting P.moves c s note
    with_step t k c is told f = subst (λ x. Fitting P.moves c x note) (sym is) (subst (Fitting P.moves c t) (sym told) f)

    counted : (c : ℕ) (y : Command) (k : Note) → s ≡ Elem p c → note ≡ k → slice_get P.moves.issued c ≡ Some y → has_element P.moves c y ≡ true → IsQuiet k → IsDelivery (progress_of P.moves c y) k → (length (read_of P.moves.read c) < 65534 → IsNumbered (progress_of P.moves c y).read k) → Fitting P.moves d s note
    counted c y k is told at has quiet delivery numbered =
        let els = keep.order.elements c y at in
        let fit = (keep.fit.fits c y at).0 in
        as_own c (number c (ap (is_of p d) is)) (with_step (Elem p c) k c is told (record {
          command = y;
          at = at;
          live = (count-shape P.moves c y fit els has).unfinished;
          fits = count_fits p c P.moves y k fit els has numbered;
          quiet = quiet;
          delivery = delivery;
        }))

    on : Works p s note P.moves Q.moves (is_faulted Q.status) → Fitting P.moves d s note
    on (rests same idle) = absurd (true≢false (sym of ∙ idle.none d))
    on (issues y is told same fit low) = no_step (Exec p) is refl
    on (acks tag is told same) = no_step (Exec p) is refl
    on (copies c e k y is told at has same) =
        let els = keep.order.elements c y at in
        let fit = (keep.fit.fits c y at).0 in
        let told_it = piece_told P.moves c e k y note fit els has told in
        as_own c (number c (ap (is_of p d) is))
        (with_step (Piece p c e k) note c is refl
        (record { command = y; at = at; live = (piece-shape P.moves c e k y fit els has).unfinished; fits = part_fits p c e k P.moves y note fit els has; quiet = told_it.0; delivery = told_it.1 }))
    on (reads c y x is told at has numbered same) =
        counted c y (Reading x.number (parts_in x) x.flagged) is told at has tt tt (λ low.
        let may = count-shape P.moves c y (keep.fit.fits c y at).0 (keep.order.elements c y at) has in
        (numbered ∙ sym may.number, subst (λ n. n < 65534) (sym may.number) low))
    on (fails c y is (inl told) at has same off) = counted c y Nothing is told at has tt tt (λ low. subst (λ n. n < 65534) (sym (count-shape P.moves c y (keep.fit.fits c y at).0 (keep.order.elements c y at) has).number) low)
    on (fails c y is (inr told) at has same off) = counted c y Ended is told at has tt tt (λ low. subst (λ n. n < 65534) (sym (count-shape P.moves c y (keep.fit.fits c y at).0 (keep.order.elements c y at) has).number) low)
    on (retires c y is told at has same) =
        let els = keep.order.elements c y at in
        let gone = retire-shape P.moves c y els has in
        as_own c (number c (ap (is_of p d) is)) (with_step (Retire p c) Nothing c is told (record { command = y; at = at; live = gone.unfinished; fits = (gone.left, gone.read); quiet = tt; delivery = tt }))

-- every command that goes before it is complete
earlier_done : (p d c : ℕ) (before : Trace) (P : Spe) (y : Command) (s : Progress) → SpeKeeps p before P → is_faulted P.status ≡ false → may_begin P.moves d ≡ true → slice_get P.moves.issued d ≡ Some y → c < d → Has before p c s
    → precedes s.command y ≡ true → s.done ≡ true
unfolding goes_before
earlier_done p d c before P y s keep whole may at low has goes =
    let come = has-come p before P c s keep.status whole has in
    let less : nat_lt c d ≡ true = grind (arith, nat_tests, low) in
    let own : precedes come.command y ≡ true = ap (λ (x : Progress). precedes x.command y) (sym come.same) ∙ goes in
    let ahead : goes_before P.moves.issued c d ≡ true =
    ap (λ b. b && option_map_or (λ first. option_map_or (λ second. precedes first second) (slice_get P.moves.issued d) false) (slice_get P.moves.issued c) false) less
    ∙ ap (λ o. option_map_or (λ first. option_map_or (λ second. precedes first second) (slice_get P.moves.issued d) false) o false) come.at
    ∙ ap (λ o. option_map_or (λ second. precedes come.command second) o false) at ∙ own in
    ap (λ (x : Progress). x.done) come.same ∙ sym (complete-at P.moves c come.command come.at) ∙ begun P c d may ahead

-- a command is issued by the step that tells it
record IsIssued (m : Moves) (c : ℕ) (d : Command) : Type 0 where
  number : c ≡ length m.issued
  tag : d.tag < 32
  piece : IsOnePiece d

told_issue : (p c : ℕ) (d : Command) (s : Step) (note : Note) (m n : Moves) (gone : Bool) → s ≡ Exec p → note ≡ Issue c d → Works p s note m n gone → IsIssued m c d
told_issue p c d s note m n gone is told works = on works
  where
    other_step : (t : Step) → s ≡ t → (t ≡ Exec p → ⊥) → IsIssued m c d
    other_step t same differs = absurd (differs (sym same ∙ is))

    nothing : {t : Progress} → Some t ≡ None → ⊥
    nothing e = cc

    same_issue : (k : ℕ) (y : Command) → Issue k y ≡ Issue c d → (k ≡ c) × (y ≡ d)
    same_issue k y e = (cc, cc)

    no_ack : (tag : ℕ) → Ack tag ≡ Issue c d → ⊥
    no_ack tag e = cc

    no_piece : (b e k : ℕ) → Piece p b e k ≡ Exec p → ⊥
    no_piece b e k x = cc

    no_elem : (b : ℕ) → Elem p b ≡ Exec p → ⊥
    no_elem b x = cc

    no_retire : (b : ℕ) → Retire p b ≡ Exec p → ⊥
    no_retire b x = cc

    on : Works p s note m n gone → IsIssued m c d
    on (rests same idle) = absurd (nothing (sym (ap (λ x. first_status p c x note) is ∙ ap (first_status p c (Exec p)) told ∙ ap (λ b. cond b (issued_as c (Issue c d)) None) (eq_same p) ∙ ap (λ b. cond b (Some (starts d)) None) (eq_same c)) ∙ idle.fresh c))
    on (issues y was tells same fit low) = let e = same_issue (length m.issued) y (sym tells ∙ told) in record { number = sym e.0; tag = subst (λ (z : Command). z.tag < 32) e.1 low; piece = subst (λ z. IsOnePiece z) e.1 fit.one_piece }
    on (acks tag was tells same) = absurd (no_ack tag (sym tells ∙ told))
    on (copies b e k y was tells at has same) = other_step (Piece p b e k) was (no_piece b e k)
    on (reads b y x was tells at has number same) = other_step (Elem p b) was (no_elem b)
    on (fails b y was tells at has same off) = other_step (Elem p b) was (no_elem b)
    on (retires b y was tells at has same) = other_step (Retire p b) was (no_retire b)

-- by the rules of the queue
pub queue-may : (old new : List Spe) (before : Trace) (s : Step) (e : Effect) → AllKeep before old → Came old new s e → QueueMay before (record { step = s; effect = e })
queue-may old new before s e keep came = record {
  step = λ p d of.
      let asks = came.asks p (step_maker p d s of) in
      let P = asks.0 in
      let k = keep.each p P asks.1 in
      let to = came.each p P asks.1 in
      let f = fitting p d s e.note P to.0 before k to.2.works of in
      record {
        progress = progress_of P.moves d f.command;
        has = record { is = k.status.come asks.2.whole d ∙ ap (option_map (progress_of P.moves d)) f.at };
        live = f.live;
        first = λ c t low has goes. earlier_done p d c before P f.command t k asks.2.whole (asks.2.begun d of) f.at low has goes;
        fits = f.fits;
        quiet = f.quiet;
        delivery = f.delivery;
      };
  issue = λ p c command is told.
      let asks = came.asks p (ap maker is) in
      let P = asks.0 in
      let k = keep.each p P asks.1 in
      let to = came.each p P asks.1 in
      let issued = told_issue p c command s e.note P.moves to.0.moves (is_faulted to.0.status) is told to.2.works in
      (subst (IsNext before p) (sym issued.number) (issued-next p before P k.status), issued.tag, issued.piece);
  tags = λ p groups issued is told.
      let asks = came.asks p (ap maker is) in
      let P = asks.0 in
      (keep.each p P asks.1).tags asks.2.whole (record { groups = groups; issued = issued }) (asks.2.status groups issued is told);
}
