use Rattle.std.proofs.Common.{sym, ap, length, ◌∙◌}
use Rattle.digest_pages.proofs.PageLaws.{length_in}
use Rattle.digest_pages.proofs.DigestPages.len.Goals as goal

pub returns : goal.returns
returns c = sym (length_in c.self.inside.count c.self.inside.pages.items) ∙ ap length c.self.view_is
