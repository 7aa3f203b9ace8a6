use Rattle.std.proofs.Common.{ap, ◌∙◌}
use Rattle.digest_pages.specs.Pages.{digests_in}
use Rattle.digest_pages.proofs.PageLaws.{none_written}
use Rattle.digest_pages.proofs.DigestPages.new.Goals as goal

pub returns : goal.returns
returns c = ap (digests_in c.args.count) c.new.ensures.items ∙ none_written c.args.count
