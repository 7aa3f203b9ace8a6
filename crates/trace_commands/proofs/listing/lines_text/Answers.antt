use Rattle.std.proofs.Common.{sym, subst}
use Rattle.trace_commands.specs.Files.{SourceRefuses}
use Rattle.trace_commands.specs.Listings.{ListsText}
use Rattle.trace_commands.proofs.ListingLaws.{to_image, to_source, source_refuses, source_read, listing_comes}
use Rattle.trace_commands.proofs.listing.lines_text.Goals as goal

pub returns-in-Err-clause-comes : goal.returns-in-Err-clause-comes
returns-in-Err-clause-comes g c = λ told is.
    subst (SourceRefuses told c.args.source.now _ _) (sym c.fault_of.ensures.told) (source_refuses told c.args.source.now _ _ c.in-Err.fault (c.in-Err.ensures.comes told is to_image))

pub returns-clause-comes : goal.returns-clause-comes
returns-clause-comes g c = λ told is.
    listing_comes told c.args.source.now _ _ c.in-Ok.text.items c.text_listing.result (source_read told c.args.source.now c.in-Ok.text.items (c.in-Ok.ensures.comes told is to_source)) (c.in-Ok.ensures.comes told is to_image)
    (subst (λ t. ListsText t c.text_listing.result) c.as_slice.ensures.value c.text_listing.ensures)
