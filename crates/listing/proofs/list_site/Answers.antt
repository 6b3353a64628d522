-- `listing::list_site`: the answer of the site call, and its listing where the text has room. Assumes nothing.
use Rattle.std.proofs.Common.{length, refl, ap, ◌∙◌, zero-add, arith, rules}
use Rattle.text.specs.declared.Text.{Text}
use Rattle.text.proofs.Puts.{put_at, given_back}
use Rattle.listing.proofs.Listings.{answered, short, long, left}
use Rattle.listing.proofs.list_site.Goals as goal

pub returns-then-text-lt24576 : goal.returns-then-text-lt24576
returns-then-text-lt24576 c =
    let s = short c.args.site.now (length c.args.results.now) c.args.text.now c.if-text-lt24576.true in
    (c.evaluate-answer.ensures.0, (s.0, (c.evaluate-answer.ensures.1, s.1)))

pub put_listing-requires : goal.put_listing-requires
put_listing-requires c =
    let a = c.args in (
      answered a.site.now a.results.now c.evaluate-answer.result _ (λ i. omega (arith, c.type_inv.site i)) c.evaluate-answer.ensures.0 c.evaluate-answer.ensures.1,
      c.if-text-lt24576.false,
    )

pub returns : goal.returns
returns c =
    let a = c.args in
    let answer = c.evaluate-answer.ensures in
    let put = c.put_listing.ensures in
    let room = c.if-text-lt24576.false in (
      answer.0,
      (
        long a.site.now (length a.results.now) a.text.now room answer.0 (ap (λ (t : Text). t.at) put ∙ put_at _ _ ∙ zero-add _),
        (answer.1, left a.site.now (length a.results.now) a.text.now room answer.0 (given_back _ _ refl put (search rules))),
      ),
    )
