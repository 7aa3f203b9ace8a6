-- A step of one processor: what the recorded one shows, and how it is made in another state.
use Rattle.std.proofs.Common.{◌≡◌, ℕ, suc, ◌<◌, sym, ◌∙◌, ap, arith, List, [], ◌∷◌, ◌++◌, length, Some, None}
use Rattle.std.specs.Prelude.{slice_get}
use Rattle.std.specs.Option.{option_map_or}
use Rattle.std.proofs.lemmas.Option.{get_or_from_slice_get, slice_get_within}
use Rattle.lock_lines.specs.Versions.{raised}
use Rattle.cell_machine.specs.declared.effect.Effect.{Effect}
use Rattle.cell_machine.specs.State.{State}
use Rattle.cell_machine.specs.Tags.{settled}
use Rattle.cell_machine.specs.Next.{own, ended_by, with_left}
use Rattle.cell_machine.specs.Transfers.{Left}
use Rattle.cell_machine.specs.Locks.{stored_by}
use Rattle.cell_machine.specs.EffectLaws.{maker}
use Rattle.cell_machine.specs.Written.{written_by}
use Rattle.cell_machine.proofs.StateBytes.{effect-own}
use Rattle.cell_machine.proofs.StepBytes.{own_effect}
use Rattle.reorder_laws.specs.Silent.{silent, IsLike}
use Rattle.reorder_laws.proofs.Hosting.{map_some, next-leaves, next-made}
use Rattle.reorder_laws.specs.Recorded.{Recorded, IsRecorded, count_of, spe_in, no_spe, spe_before}
use Rattle.reorder_laws.specs.Frames.{HasFrames}
use Rattle.reorder_laws.specs.Described.{Describes, DescribesSpe}
use Rattle.reorder_laws.specs.Steps.{HasSameSpans, MakesStep}
use Rattle.reorder_laws.proofs.After.{get_in, describes_own}

-- the recorded step at j is one of processor p
pub record IsOwn (r : Recorded) (j p : ℕ) : Type 0 where
  pub low : p < count_of r
  pub left : Left
  pub owns : own (r.state j).memory (r.step j) (spe_before r p j) ≡ Some left
  pub effect : own_effect (length (r.state j).spes) p (r.state j).memory (r.step j) (spe_before r p j) ≡ Some (r.effect j)
  pub after : IsLike (spe_before r p (suc j)) (settled left.spe)
  pub memory : (r.state (suc j)).memory ≡ left.memory

module _ (r : Recorded) (rec : IsRecorded r) (frames : HasFrames r) (j : ℕ) (low : j < r.size) (p : ℕ) (by : maker (r.step j) ≡ Some p) where
  pub is_own : IsOwn r j p
  is_own =
      let n = next-leaves (r.state j) (r.state (suc j)) (r.step j) p by (rec.made j low) in
      let same : spe_before r p j ≡ n.spe = get_or_from_slice_get (r.state j).spes p n.spe no_spe n.at in
      record {
        low = omega (arith, slice_get_within (r.state j).spes p n.spe n.at, frames.count j (omega (arith, low)));
        left = n.left;
        owns = ap (own (r.state j).memory (r.step j)) same ∙ n.owns;
        effect = ap (own_effect (length (r.state j).spes) p (r.state j).memory (r.step j)) same ∙ sym (effect-own (r.state j) (r.step j) p n.spe by n.at) ∙ rec.told j low;
        after = let k = map_some silent (slice_get (r.state (suc j)).spes p) (silent (settled n.left.spe)) n.here in ap silent (get_or_from_slice_get (r.state (suc j)).spes p k.0 no_spe k.1) ∙ k.2;
        memory = ap (λ (N : State). N.memory) n.is;
      }

  -- the same step in M
  pub made_in : (D : List ℕ) (M : State) (x : Left) (e : Effect) → p < count_of r → Describes r D M → own M.memory (r.step j) (spe_in M p) ≡ Some x → own_effect (length M.spes) p M.memory (r.step j) (spe_in M p) ≡ Some e
      → HasSameSpans e (r.effect j) → written_by M (r.step j) ≡ written_by (r.state j) (r.step j) → DescribesSpe r p (D ++ j ∷ []) (settled x.spe)
      → length x.memory.bytes ≡ length M.memory.bytes → x.memory.versions ≡ option_map_or (raised M.memory.versions) (stored_by (r.state j) (r.step j)) M.memory.versions → x.sent ≡ None → MakesStep r D j M
  made_in D M x e low_p d owns effect spans written own_ long versions sent =
      let at = get_in M.spes p (omega (arith, low_p, d.count)) in
      record {
        after = ended_by M (r.step j) (with_left M p x);
        next_is = next-made M (r.step j) p (spe_in M p) x by at owns;
        effect = e;
        effect_is = effect-own M (r.step j) p (spe_in M p) by at ∙ effect;
        spans = spans;
        written = written;
        describes = describes_own r frames D j low M p x by low_p d own_ long versions sent;
      }
