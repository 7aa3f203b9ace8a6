use Rattle.unwritten_reads.proofs.Placing.{knows-none}
use Rattle.unwritten_reads.proofs.reads.UnwrittenReads.new.Goals as goal

pub returns : goal.returns
returns c = λ m is none. knows-none m c.args.setup.now _ is none c.placed_bytes.ensures.opening c.in_ok-known.ensures.long c.in_ok-known.ensures.placed c.new.ensures.items
