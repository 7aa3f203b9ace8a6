use Rattle.trace_commands.proofs.ListingLaws.{all_text}
use Rattle.trace_commands.proofs.listing.listing_text.Goals as goal

pub returns : goal.returns
returns c = all_text c.args.listing.now c.lines.result.now c.labels.result.now _ _ _ c.lines.ensures c.labels.ensures c.new-out.ensures.items c.in_ok-put_lines.ensures c.in_ok-put_labels.ensures
