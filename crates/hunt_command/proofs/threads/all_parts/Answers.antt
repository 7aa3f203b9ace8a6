use Rattle.std.proofs.Common.{◌≡◌, ◌∷◌, ◌++◌, sym, rules}
use Rattle.std.specs.Prelude.{IfOk, Result, Vec}
use Rattle.std.specs.declared.alloc.AllocError.{AllocError}
use Rattle.std.specs.declared.alloc.Global.{Global}
use Rattle.std.proofs.lemmas.List.Elements.{All-head, All-rest, All-same, All-append}
use Rattle.std.proofs.lemmas.List.Sorted.{All-permutation}
use Rattle.hunt_command.specs.declared.parts.Part.{Part}
use Rattle.hunt_command.specs.Hunts.{IsPart, AreParts}
use Rattle.hunt_command.proofs.HuntsLaws.{of_ok}
use Rattle.hunt_command.proofs.threads.all_parts.Goals as goal

pub loop-made-preserved : goal.loop-made-preserved
loop-made-preserved c =
    let made = c.in_ok-made.field-0 in
    let rest = c.next.new.self.rest.items in
    let old = c.loop-made.made-iterator.rest.items in
    let more : c.append.new.self.items ≡ c.loop-made.parts.items ++ made.items = search rules in
    record {
      can = tt;
      finite = tt;
      left = λ q seed from end gave. All-rest (λ told. IfOk told (λ parts. AreParts q seed from end parts.items)) c.in-Some.made rest old c.in-Some.ensures.steps.0 (c.loop-made.invariant.left q seed from end gave);
      are = λ q seed from end gave.
          let is = IsPart q seed from end in
          let gives : Result (Vec Part Global) AllocError → Type 0 = λ told. IfOk told (λ parts. AreParts q seed from end parts.items) in
          let told : gives c.in-Some.made =
          All-head gives c.in-Some.made rest (All-same gives (c.in-Some.made ∷ rest) old (sym c.in-Some.ensures.steps.0) (c.loop-made.invariant.left q seed from end gave)) in
          let these : AreParts q seed from end made.items = of_ok (λ parts. AreParts q seed from end parts.items) c.in-Some.made made c.in_ok-made.was told in
          All-same is c.append.new.self.items (c.loop-made.parts.items ++ made.items) more (All-append is c.loop-made.parts.items made.items (c.loop-made.invariant.are q seed from end gave) these);
    }

pub returns : goal.returns
returns c = λ q seed from end gave.
    All-permutation (IsPart q seed from end) c.loop-made.parts.items c.sort_by_key.new.self.items c.sort_by_key.ensures.permutation (c.loop-made.invariant.are q seed from end gave)
