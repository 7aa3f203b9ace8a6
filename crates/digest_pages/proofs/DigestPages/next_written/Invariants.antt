use Rattle.digest_pages.proofs.PageLaws.{IsPassed}
use Rattle.digest_pages.proofs.DigestPages.next_written.Given as goal

abbrev pub invariant-loop-page : goal.invariant-loop-page
invariant-loop-page l = IsPassed l.self-inside.pages.items l.from l.page
