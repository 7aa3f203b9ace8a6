-- After a step all bytes are as before but those that it writes, and it looks at no bytes but those of its effect.
use Rattle.std.proofs.Common.{refl}
use Rattle.cell_base.specs.declared.steps.Step.TheVariants.{Exec, Piece, Elem, Retire, Atomic, Host}
use Rattle.cell_machine.specs.EffectLaws.{WritesAlone, LooksAlone}
use Rattle.cell_machine.proofs.StateBytes.{there, frame-own, same-own}
use Rattle.cell_machine.proofs.HostBytes.{frame-host, same-host}

pub writes-alone : WritesAlone
writes-alone M N (Exec p) e is effect place = there M (Exec p) p e _ refl effect (λ P at. frame-own M N (Exec p) p P e refl at is effect place)
writes-alone M N (Piece p c e0 k) e is effect place = there M (Piece p c e0 k) p e _ refl effect (λ P at. frame-own M N (Piece p c e0 k) p P e refl at is effect place)
writes-alone M N (Elem p c) e is effect place = there M (Elem p c) p e _ refl effect (λ P at. frame-own M N (Elem p c) p P e refl at is effect place)
writes-alone M N (Retire p c) e is effect place = there M (Retire p c) p e _ refl effect (λ P at. frame-own M N (Retire p c) p P e refl at is effect place)
writes-alone M N (Atomic p) e is effect place = there M (Atomic p) p e _ refl effect (λ P at. frame-own M N (Atomic p) p P e refl at is effect place)
writes-alone M N Host e is effect place = frame-host M N e is effect place

pub looks-alone : LooksAlone
looks-alone M N M2 (Exec p) e same effect is f r = there M (Exec p) p e _ refl effect (λ P at. same-own M N M2 (Exec p) p P e refl at same effect is f r)
looks-alone M N M2 (Piece p c e0 k) e same effect is f r = there M (Piece p c e0 k) p e _ refl effect (λ P at. same-own M N M2 (Piece p c e0 k) p P e refl at same effect is f r)
looks-alone M N M2 (Elem p c) e same effect is f r = there M (Elem p c) p e _ refl effect (λ P at. same-own M N M2 (Elem p c) p P e refl at same effect is f r)
looks-alone M N M2 (Retire p c) e same effect is f r = there M (Retire p c) p e _ refl effect (λ P at. same-own M N M2 (Retire p c) p P e refl at same effect is f r)
looks-alone M N M2 (Atomic p) e same effect is f r = there M (Atomic p) p e _ refl effect (λ P at. same-own M N M2 (Atomic p) p P e refl at same effect is f r)
looks-alone M N M2 Host e same effect is f r = same-host M N M2 e same effect is
