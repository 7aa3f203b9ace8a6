use Rattle.std.proofs.Common.{◌≡◌, length, true, arith, rules, vec_len}
use Rattle.std.specs.Prelude.{is_ok}
use Rattle.local_store.proofs.Kept.{longer}
use Rattle.local_store.proofs.add_zeros.Goals as goal

pub returns-clause-same : goal.returns-clause-same
returns-clause-same c =
    let ok : is_ok c.resize.result ≡ true = c.resize.ensures.succeeds (omega arith) in
    let len : vec_len c.args.bytes.now ≡ length c.args.bytes.now.items = search rules in
    longer _ _ c.args.count _ len c.requires.more c.requires.within (rw ok at c.resize.ensures.items)
