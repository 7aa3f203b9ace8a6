-- The mailboxes at an instruction, in another order.
use Rattle.std.proofs.Common.{◌≡◌, ℕ, zero, suc, ◌<◌, refl, sym, ◌∙◌, ap, subst, arith, Bool, true, false, List, [], ◌∷◌, ◌++◌, length, cond}
use Rattle.std.specs.Prelude.{slice_get, ◌==◌, ◌&&◌}
use Rattle.std.specs.List.{range_with_len}
use Rattle.std.proofs.lemmas.Bool.{eq-eqb}
use Rattle.cell_base.specs.declared.steps.Step.TheVariants.{Exec, Host}
use Rattle.cell_machine.specs.Spe.{Spe}
use Rattle.cell_machine.specs.State.{State}
use Rattle.cell_machine.specs.Tags.{settled}
use Rattle.reorder_laws.specs.Silent.{IsLike}
use Rattle.reorder_laws.specs.Deeds.{Did, Ends, Goes, Plain, SetParams, SetMask, AskTags, TakeTags, TakeStalls, TakeAtomic, TakeValue, Queue, FillSlot, Resume, PutValue, PutInterrupt, TakeSignal, LeaveEvents, did, note_of, behind_first}
use Rattle.reorder_laws.specs.Boxes.{later_of, first_of}
use Rattle.reorder_laws.specs.Cuts.{IsFront, IsCut}
use Rattle.reorder_laws.specs.Recorded.{Recorded, IsRecorded, count_of, spe_in, spe_before, box_of, is_put_note, is_take_note}
use Rattle.reorder_laws.specs.OrderLaws.{Orders}
use Rattle.reorder_laws.specs.Frames.{HasFrames, IsFaultless}
use Rattle.reorder_laws.specs.OrderedLaws.{BoxesFit}
use Rattle.reorder_laws.proofs.Makers.{put-maker, take-maker}
use Rattle.reorder_laws.specs.Described.{Describes, ShowsBox}
use Rattle.reorder_laws.proofs.Cuts.{cut_front, cut_skip}
use Rattle.reorder_laws.proofs.BoxSteps.{PutsThere, puts_there, TakesThere, takes_there}

later_same : (xs : List ℕ) → behind_first xs ≡ later_of xs
later_same [] = refl
later_same (x ∷ xs) = refl

first_same : (xs : List ℕ) → slice_get xs 0 ≡ first_of xs
first_same [] = refl
first_same (x ∷ xs) = refl

module _ (r : Recorded) (rec : IsRecorded r) (frames : HasFrames r) (faultless : IsFaultless r) (Before : ℕ → ℕ → Type 0) (orders : Orders Before r) (fit : BoxesFit r) (D : List ℕ) (j : ℕ) (M : State) (p : ℕ) (low_p : p < count_of r)
    (front : IsFront Before r.size D j) (describes : Describes r D M) (shown : Describes r (range_with_len 0 j) (r.state j)) (step_is : r.step j ≡ Exec p) (d : Did) (note : (r.effect j).note ≡ note_of p d) (after : IsLike (spe_before r p (suc j)) (settled (did d (spe_before r p j)))) where
  abbrev K : Spe
  K = spe_before r p j

  abbrev P : Spe
  P = spe_in M p

  boxes_P : (m : ℕ) → m < 3 → ShowsBox r p m D (box_of m P)
  boxes_P = (describes.spes p low_p).boxes

  boxes_K : (m : ℕ) → m < 3 → ShowsBox r p m (range_with_len 0 j) (box_of m K)
  boxes_K = (shown.spes p low_p).boxes

  -- D has come up to j in the puts and takes that are instructions
  put_behind : (m : ℕ) → (m == 0) ≡ false → (i : ℕ) → i < r.size → is_put_note p m (r.effect i).note ≡ true → r.step i ≡ Exec p
  put_behind m n i low h = put-maker r rec faultless i p m low low_p h ∙ ap (λ b. cond b Host (Exec p)) n

  put_cut : (m : ℕ) → (m == 0) ≡ false → IsCut r.size (λ i. is_put_note p m (r.effect i).note) D j
  put_cut m n =
      cut_front r.size Before (λ i. is_put_note p m (r.effect i).note) D j front
      (λ i less h. orders.program i j p less front.low (put_behind m n i (let l = front.low in omega (arith, l, less)) h) step_is)
      (λ i above low h. orders.program j i p above low step_is (put_behind m n i low h))

  take_cut : IsCut r.size (λ i. is_take_note p 0 (r.effect i).note) D j
  take_cut =
      cut_front r.size Before (λ i. is_take_note p 0 (r.effect i).note) D j front
      (λ i less h. orders.program i j p less front.low (take-maker r rec faultless i p 0 (let l = front.low in omega (arith, l, less)) low_p h) step_is)
      (λ i above low h. orders.program j i p above low step_is (take-maker r rec faultless i p 0 low low_p h))

  puts : (m : ℕ) (small : m < 3) → (m == 0) ≡ false → is_put_note p m (note_of p d) ≡ true → is_take_note p m (note_of p d) ≡ false
      → PutsThere r frames p m low_p small Before orders fit D j front describes.inside (box_of m P) (boxes_P m small)
  puts m small n is off =
      puts_there r frames p m low_p small Before orders fit D j front describes.inside (box_of m P) (boxes_P m small) (ap (is_put_note p m) note ∙ is) (ap (is_take_note p m) note ∙ off) (put_cut m n)
      (λ i above low h. orders.program j i p above low step_is (put_behind m n i low h))

  takes : is_take_note p 0 (note_of p d) ≡ true → is_put_note p 0 (note_of p d) ≡ false → TakesThere r frames p 0 low_p (omega arith) Before orders fit D j front describes.inside P.inbound (boxes_P 0 (omega arith))
  takes is off =
      takes_there r frames p 0 low_p (omega arith) Before orders fit D j front describes.inside P.inbound (boxes_P 0 (omega arith)) (ap (is_take_note p 0) note ∙ is) (ap (is_put_note p 0) note ∙ off) take_cut (boxes_K 0 (omega arith))

  kept : (m : ℕ) (small : m < 3) → is_put_note p m (note_of p d) ≡ false → is_take_note p m (note_of p d) ≡ false → ShowsBox r p m (D ++ j ∷ []) (box_of m P)
  kept m small a b =
      let box = boxes_P m small in
      record {
        put_place = box.put_place;
        take_place = box.take_place;
        put_within = box.put_within;
        take_within = box.take_within;
        put_cut = cut_skip r.size (λ i. is_put_note p m (r.effect i).note) D j box.put_place (ap (is_put_note p m) note ∙ a) box.put_cut;
        take_cut = cut_skip r.size (λ i. is_take_note p m (r.effect i).note) D j box.take_place (ap (is_take_note p m) note ∙ b) box.take_cut;
        values_are = box.values_are;
      }

  own : (m : ℕ) → ((p == p) && (m == m)) ≡ true
  own m = ap (λ b. b && (m == m)) (eq-eqb p p refl) ∙ eq-eqb m m refl

  other : (a b : ℕ) → (a == b) ≡ false → ((p == p) && (a == b)) ≡ false
  other a b h = ap (λ b. (p == p) && b) h ∙ and_false (p == p)
    where
      and_false : (x : Bool) → (x && false) ≡ false
      and_false true = refl
      and_false false = refl

  -- every deed leaves the mailboxes described
  quiet : ((m : ℕ) → is_put_note p m (note_of p d) ≡ false) → ((m : ℕ) → is_take_note p m (note_of p d) ≡ false) → (m : ℕ) → m < 3 → ShowsBox r p m (D ++ j ∷ []) (box_of m P)
  quiet a b m small = kept m small (a m) (b m)

  by : (x : Did) → d ≡ x → (m : ℕ) → m < 3 → ShowsBox r p m (D ++ j ∷ []) (box_of m (did x P))
  by (Ends status x) e m small = quiet (λ m. ap (λ d. is_put_note p m (note_of p d)) e) (λ m. ap (λ d. is_take_note p m (note_of p d)) e) m small
  by (Goes x Plain) e m small = quiet (λ m. ap (λ d. is_put_note p m (note_of p d)) e) (λ m. ap (λ d. is_take_note p m (note_of p d)) e) m small
  by (Goes x (SetParams params)) e m small = quiet (λ m. ap (λ d. is_put_note p m (note_of p d)) e) (λ m. ap (λ d. is_take_note p m (note_of p d)) e) m small
  by (Goes x (SetMask mask)) e m small = quiet (λ m. ap (λ d. is_put_note p m (note_of p d)) e) (λ m. ap (λ d. is_take_note p m (note_of p d)) e) m small
  by (Goes x (TakeSignal mask)) e m small = quiet (λ m. ap (λ d. is_put_note p m (note_of p d)) e) (λ m. ap (λ d. is_take_note p m (note_of p d)) e) m small
  by (Goes x (LeaveEvents mask)) e m small = quiet (λ m. ap (λ d. is_put_note p m (note_of p d)) e) (λ m. ap (λ d. is_take_note p m (note_of p d)) e) m small
  by (Goes x (AskTags how)) e m small = quiet (λ m. ap (λ d. is_put_note p m (note_of p d)) e) (λ m. ap (λ d. is_take_note p m (note_of p d)) e) m small
  by (Goes x (TakeTags t)) e m small = quiet (λ m. ap (λ d. is_put_note p m (note_of p d)) e) (λ m. ap (λ d. is_take_note p m (note_of p d)) e) m small
  by (Goes x (TakeStalls bits)) e m small = quiet (λ m. ap (λ d. is_put_note p m (note_of p d)) e) (λ m. ap (λ d. is_take_note p m (note_of p d)) e) m small
  by (Goes x TakeAtomic) e m small = quiet (λ m. ap (λ d. is_put_note p m (note_of p d)) e) (λ m. ap (λ d. is_take_note p m (note_of p d)) e) m small
  by (Goes x (Queue number c)) e m small = quiet (λ m. ap (λ d. is_put_note p m (note_of p d)) e) (λ m. ap (λ d. is_take_note p m (note_of p d)) e) m small
  by (Goes x (FillSlot a)) e m small = quiet (λ m. ap (λ d. is_put_note p m (note_of p d)) e) (λ m. ap (λ d. is_take_note p m (note_of p d)) e) m small
  by (Goes x (Resume tag stalls)) e m small = quiet (λ m. ap (λ d. is_put_note p m (note_of p d)) e) (λ m. ap (λ d. is_take_note p m (note_of p d)) e) m small
  by (Goes x TakeValue) e zero small =
      let put : is_put_note p 0 (note_of p d) ≡ false = ap (λ d. is_put_note p 0 (note_of p d)) e in
      let take : is_take_note p 0 (note_of p d) ≡ true = ap (λ d. is_take_note p 0 (note_of p d)) e ∙ own 0 in
      subst (ShowsBox r p 0 (D ++ j ∷ [])) (sym (later_same P.inbound)) (takes take put).after
  by (Goes x TakeValue) e (suc zero) small = kept 1 small (ap (λ d. is_put_note p 1 (note_of p d)) e) (ap (λ d. is_take_note p 1 (note_of p d)) e ∙ other 0 1 refl)
  by (Goes x TakeValue) e (suc (suc zero)) small = kept 2 small (ap (λ d. is_put_note p 2 (note_of p d)) e) (ap (λ d. is_take_note p 2 (note_of p d)) e ∙ other 0 2 refl)
  by (Goes x TakeValue) e (suc (suc (suc m))) small = absurd (omega (arith, small))
  by (Goes x (PutValue value)) e zero small = kept 0 small (ap (λ d. is_put_note p 0 (note_of p d)) e ∙ other 1 0 refl) (ap (λ d. is_take_note p 0 (note_of p d)) e)
  by (Goes x (PutValue value)) e (suc zero) small =
      let put : is_put_note p 1 (note_of p d) ≡ true = ap (λ d. is_put_note p 1 (note_of p d)) e ∙ own 1 in
      let take : is_take_note p 1 (note_of p d) ≡ false = ap (λ d. is_take_note p 1 (note_of p d)) e in
      (puts 1 small refl put take).after value (ap (λ (Q : Spe). Q.outbound) after ∙ ap (λ d. (did d K).outbound) e)
  by (Goes x (PutValue value)) e (suc (suc zero)) small = kept 2 small (ap (λ d. is_put_note p 2 (note_of p d)) e ∙ other 1 2 refl) (ap (λ d. is_take_note p 2 (note_of p d)) e)
  by (Goes x (PutValue value)) e (suc (suc (suc m))) small = absurd (omega (arith, small))
  by (Goes x (PutInterrupt value)) e zero small = kept 0 small (ap (λ d. is_put_note p 0 (note_of p d)) e ∙ other 2 0 refl) (ap (λ d. is_take_note p 0 (note_of p d)) e)
  by (Goes x (PutInterrupt value)) e (suc zero) small = kept 1 small (ap (λ d. is_put_note p 1 (note_of p d)) e ∙ other 2 1 refl) (ap (λ d. is_take_note p 1 (note_of p d)) e)
  by (Goes x (PutInterrupt value)) e (suc (suc zero)) small =
      let put : is_put_note p 2 (note_of p d) ≡ true = ap (λ d. is_put_note p 2 (note_of p d)) e ∙ own 2 in
      let take : is_take_note p 2 (note_of p d) ≡ false = ap (λ d. is_take_note p 2 (note_of p d)) e in
      (puts 2 small refl put take).after value (ap (λ (Q : Spe). Q.interrupt) after ∙ ap (λ d. (did d K).interrupt) e)
  by (Goes x (PutInterrupt value)) e (suc (suc (suc m))) small = absurd (omega (arith, small))

  pub boxes_after : (m : ℕ) → m < 3 → ShowsBox r p m (D ++ j ∷ []) (box_of m (did d P))
  boxes_after = by d refl

  -- ---- and it sees the recorded value, or finds room

  pub value_seen : (x : Did) → d ≡ x → is_take_note p 0 (note_of p x) ≡ true → is_put_note p 0 (note_of p x) ≡ false → slice_get P.inbound 0 ≡ slice_get K.inbound 0
  value_seen x e a b =
      first_same P.inbound ∙ (takes (ap (λ d. is_take_note p 0 (note_of p d)) e ∙ a) (ap (λ d. is_put_note p 0 (note_of p d)) e ∙ b)).first ∙ sym (first_same K.inbound)

  pub room_seen : (m : ℕ) (small : m < 3) → (m == 0) ≡ false → (x : Did) → d ≡ x → is_put_note p m (note_of p x) ≡ true → is_take_note p m (note_of p x) ≡ false → length (box_of m P) < cond (m == 0) 4 1
  room_seen m small n x e a b = (puts m small n (ap (λ d. is_put_note p m (note_of p d)) e ∙ a) (ap (λ d. is_take_note p m (note_of p d)) e ∙ b)).room
