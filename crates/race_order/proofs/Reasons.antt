-- Why a command goes before another one.
use Rattle.std.proofs.Common.{◌≡◌, ◌==◌, true, ◌&&◌, ◌||◌, ◌⊎◌, inl, inr, refl, ap}
use Rattle.std.proofs.lemmas.Bool.{or_cases, or_left, or_right, and_from, and_parts, eqb-true, eq-eqb}
use Rattle.mfc_command.specs.declared.command.Kind.{Kind}
use Rattle.mfc_command.specs.declared.command.Kind.TheVariants.{Put as KPut, Get, PutList, GetList, Barrier, PutQueued, Signal}
use Rattle.mfc_command.specs.declared.command.Mark.{Mark}
use Rattle.mfc_command.specs.declared.command.Mark.TheVariants.{Plain as MPlain, Fenced, Barred}
use Rattle.mfc_command.specs.declared.command.Command.{Command}
use Rattle.mfc_command.specs.Order.{is_barred, is_barrier, precedes}
use Rattle.race_order.specs.Passes.{is_marked}

pub data GoesBefore (c d : Command) : Type 0 where
  ByFence : c.tag ≡ d.tag → d.mark ≡ Fenced → GoesBefore c d
  ByBarrierAfter : c.tag ≡ d.tag → d.mark ≡ Barred → GoesBefore c d
  ByBarrierBefore : c.tag ≡ d.tag → c.mark ≡ Barred → GoesBefore c d
  OverAll : c.kind ≡ Barrier → GoesBefore c d
  UnderAll : d.kind ≡ Barrier → GoesBefore c d

pub kind_is : (k : Kind) → is_barrier k ≡ true → k ≡ Barrier
kind_is KPut e = cc
kind_is Get e = cc
kind_is PutList e = cc
kind_is GetList e = cc
kind_is Barrier e = refl
kind_is PutQueued e = cc
kind_is Signal e = cc

pub marked_is : (m : Mark) → is_marked m ≡ true → (m ≡ Fenced) ⊎ (m ≡ Barred)
marked_is MPlain e = cc
marked_is Fenced e = inl refl
marked_is Barred e = inr refl

pub barred_is : (m : Mark) → is_barred m ≡ true → m ≡ Barred
barred_is MPlain e = cc
barred_is Fenced e = cc
barred_is Barred e = refl

-- what precedes has a reason, and what has a reason precedes
pub reasons : (c d : Command) → precedes c d ≡ true → GoesBefore c d
reasons c d e = by (or_cases ((c.tag == d.tag && (is_marked d.mark || is_barred c.mark)) || is_barrier c.kind) (is_barrier d.kind) e)
  where
    marks : c.tag ≡ d.tag → (is_marked d.mark ≡ true) ⊎ (is_barred c.mark ≡ true) → GoesBefore c d
    marks t (inr m) = ByBarrierBefore t (barred_is c.mark m)
    marks t (inl m) = which (marked_is d.mark m)
      where
        which : (d.mark ≡ Fenced) ⊎ (d.mark ≡ Barred) → GoesBefore c d
        which (inl x) = ByFence t x
        which (inr x) = ByBarrierAfter t x

    first : ((c.tag == d.tag && (is_marked d.mark || is_barred c.mark)) ≡ true) ⊎ (is_barrier c.kind ≡ true) → GoesBefore c d
    first (inl f) = let a = and_parts (c.tag == d.tag) (is_marked d.mark || is_barred c.mark) f in marks (eqb-true c.tag d.tag a.0) (or_cases (is_marked d.mark) (is_barred c.mark) a.1)
    first (inr k) = OverAll (kind_is c.kind k)

    by : (((c.tag == d.tag && (is_marked d.mark || is_barred c.mark)) || is_barrier c.kind) ≡ true) ⊎ (is_barrier d.kind ≡ true) → GoesBefore c d
    by (inl f) = first (or_cases (c.tag == d.tag && (is_marked d.mark || is_barred c.mark)) (is_barrier c.kind) f)
    by (inr k) = UnderAll (kind_is d.kind k)

pub goes_first : (c d : Command) → GoesBefore c d → precedes c d ≡ true
goes_first c d (ByFence t m) = or_left _ _ (or_left _ _ (and_from _ _ (eq-eqb c.tag d.tag t) (or_left _ _ (ap is_marked m))))
goes_first c d (ByBarrierAfter t m) = or_left _ _ (or_left _ _ (and_from _ _ (eq-eqb c.tag d.tag t) (or_left _ _ (ap is_marked m))))
goes_first c d (ByBarrierBefore t m) = or_left _ _ (or_left _ _ (and_from _ _ (eq-eqb c.tag d.tag t) (or_right _ _ (ap is_barred m))))
goes_first c d (OverAll k) = or_left _ _ (or_right _ _ (ap is_barrier k))
goes_first c d (UnderAll k) = or_right _ _ (ap is_barrier k)
