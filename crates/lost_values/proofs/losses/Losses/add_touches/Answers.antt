use Rattle.std.proofs.Common.{refl, ap, ◌∙◌}
use Rattle.lost_values.specs.declared.losses.Losses.{Losses}
use Rattle.lost_values.specs.Losses.{is_store}
use Rattle.lost_values.specs.Touches.{is_signal, is_tag}
use Rattle.lost_values.proofs.Knowing.{knows-more, sort-touched}
use Rattle.lost_values.proofs.losses.Losses.add_touches.Goals as goal

pub returns : goal.returns
returns c =
    let m = c.args.machine.now in
    let s = c.args.step in
    let e = c.args.effect.now in
    let old = c.args.self.now in
    let S = c.setup-setup.result.now in
    let setup = c.setup-setup.ensures.setup in
    let place = c.args.place in
    let at = c.requires.place in
    let one = c.in_ok-keep.ensures.rest in
    let two = c.in_ok-keep-2.ensures.rest in
    let three = c.in_ok-keep-3.ensures.rest in
    let signals = c.touch.new.values.items in
    let stores = c.touch-2.new.values.items in
    let tags = c.touch-3.new.values.items in
    knows-more m s e c.requires.effect old c.requires.knows signals stores tags c.in_ok-signal.signal c.in_ok-store.store c.in_ok-status.status
    (sort-touched m s e is_signal S old.signals.items old.signals.items signals c.in_ok-signal.signal c.signal_touch.result place setup at refl c.signal_touch.ensures c.in_ok-signal.ensures)
    (sort-touched m s e is_store S old.stores.items c.keep.new.self.stores.items stores c.in_ok-store.store c.store_touch.result place setup at (ap (λ (o : Losses). o.stores.items) one) c.store_touch.ensures c.in_ok-store.ensures)
    (sort-touched m s e is_tag S old.tags.items c.keep-2.new.self.tags.items tags c.in_ok-status.status c.tag_touch.result place setup at (ap (λ (o : Losses). o.tags.items) two ∙ ap (λ (o : Losses). o.tags.items) one) c.tag_touch.ensures c.in_ok-status.ensures)
    c.keep.new.self.lost.items c.keep-2.new.self.lost.items c.keep-3.new.self.lost.items c.in_ok-keep.ensures.lost c.in_ok-keep-2.ensures.lost c.in_ok-keep-3.ensures.lost c.keep-3.new.self
    (ap (λ (o : Losses). o.signals.items) three ∙ ap (λ (o : Losses). o.signals.items) two ∙ ap (λ (o : Losses). o.signals.items) one)
    (ap (λ (o : Losses). o.stores.items) three ∙ ap (λ (o : Losses). o.stores.items) two)
    (ap (λ (o : Losses). o.tags.items) three)
    refl
