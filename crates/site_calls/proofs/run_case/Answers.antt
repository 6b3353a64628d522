-- The text has room for every listing, so it holds this one, all of it.
use Rattle.std.proofs.Common.{◌≡◌, length, take, replicate, rules, sym, ap, ◌∙◌, length-take-le}
use Rattle.std.proofs.lemmas.List.{length-replicate}
use Rattle.listing.proofs.Listings.{whole}
use Rattle.listing_rules.specs.Listing.{listing_of}
use Rattle.site_rules.specs.Site.{site_answer}
use Rattle.site_rules.specs.Results.{site_left}
use Rattle.site_calls.specs.Lines.{answer_line, output_line}
use Rattle.case_output.proofs.Written.{three_written}
use Rattle.site_calls.proofs.run_case.Goals as goal

pub slice_bounds-text-end : goal.slice_bounds-text-end
slice_bounds-text-end g c =
    let listed = c.list_site-listed.ensures in
    (whole _ _ _ listed.1.0 listed.1.1.1 (search rules)).0

pub slice_bounds-write_all-end : goal.slice_bounds-write_all-end
slice_bounds-write_all-end g c =
    let listed = c.list_site-listed.ensures in
    sym (length-take-le _ _ (whole _ _ _ listed.1.0 listed.1.1.1 (search rules)).0)

pub returns : goal.returns
returns g c =
    let listed = c.list_site-listed.ensures in
    let room = length c.args.out.now in
    let same : length c.fill.new.out ≡ room = ap length c.fill.ensures ∙ length-replicate room 165 in
    let text : take c.list_site-listed.result.length c.list_site-listed.new.text ≡ listing_of c.args.site.now room =
    (whole _ _ _ listed.1.0 listed.1.1.1 (search rules)).1 ∙ ap (listing_of c.args.site.now) same in
    let answer : c.list_site-listed.result.answer ≡ site_answer c.args.site.now room = listed.0 ∙ ap (site_answer c.args.site.now) same in
    let left : c.list_site-listed.new.results ≡ site_left c.args.site.now (replicate room 165) = listed.1.1.0 ∙ ap (site_left c.args.site.now) c.fill.ensures in
    three_written (g.W.Write.contents c.args.output.now) (g.W.Write.contents c.write_all.new.self) (g.W.Write.contents c.print_answer.new.output)
    (g.W.Write.contents c.print_output.new.output) c.print_output.result text (ap answer_line answer) (ap output_line left)
    c.in_ok-write_all.ensures.bytes c.in_ok-print_answer.ensures c.print_output.ensures
