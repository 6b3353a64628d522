-- The listing of an answer: a refusal alone, or the lines of the site whose header was found; and how long it is at most. Assumes nothing.
use mathlib.Core.Path.{◌≡◌, refl, sym, ap, subst, ◌∙◌}
use mathlib.Core.Bool.{true, false}
use mathlib.Core.List.{List, ◌++◌}
use Prim.Native.Nat.{ℕ, ◌-◌, ◌/◌, ◌≤◌, ◌<◌}
use native.Mathlib.Omega.{arith}
use lib.Dec.{leb}
use lib.ListN.{length, get_or, take, drop, length-append}
use lib.Seq.{take-append_seam}
use borrow.Author.Tests.{le-leb, lt-leb}
use Rattle.std.specs.Prelude.{Result, Ok, Err}
use Rattle.outcome.specs.declared.Refused.{Refused}
use Rattle.outcome.specs.Outcome.{refusal_number, number_of}
use Rattle.words.specs.Bytes.{over}
use Rattle.sum_rules.specs.Answer.{Sums}
use Rattle.site_rules.specs.Blocks.{header_of}
use Rattle.site_rules.specs.Site.{site_answer}
use Rattle.site_rules.specs.Results.{site_left}
use Rattle.site_rules.proofs.Opened.{site_long}
use Rattle.listing_rules.specs.declared.Side.TheVariants.{Risk, Hazard}
use Rattle.listing_rules.specs.Lines.{sum_line, refusal_line}
use Rattle.listing_rules.specs.Listing.{accepted_text, text_of, listing_of, text_room, text_length, text_left}
use Rattle.listing.specs.Asked.{block_text, Written, Answered}
use Rattle.listing.proofs.ResultLines.{written}

-- ---- an accepted answer has written its result blocks
accepted_by : (site : List ℕ) (out : ℕ) {a : Result Sums Refused} → a ≡ site_answer site out → number_of a ≡ 0 → number_of (site_answer site out) ≡ 0
accepted_by site out e z = ap (λ (x : Result Sums Refused). number_of x) (sym e) ∙ z

pub answered : (site out : List ℕ) (a : Result Sums Refused) (results : List ℕ) → ((i : ℕ) → get_or site i 0 < 256) → a ≡ site_answer site (length out) →
    results ≡ site_left site out → Answered site results a
answered site out a results byte e f = record { written = λ z. subst (Written site) (sym f) (written site out (accepted_by site (length out) e z) byte) }

-- ---- the text of an answer
-- the length of an accepted site gives its count
pub count_is : {site results : List ℕ} → Written site results → length site / 512 - 1 ≡ (header_of site).count
count_is w = omega (arith, site_long w.opened)

pub accepted_parts : {site results : List ℕ} (a : Sums) → Written site results → block_text results (length site / 512 - 1) a ≡ accepted_text site a
unfolding accepted_text
accepted_parts {site} {results} a w =
    ap (λ (k : ℕ). block_text results k a) (count_is w) ∙ ap (λ (l : List ℕ). l ++ sum_line Risk a.risk ++ sum_line Hazard a.hazard) w.lines

pub text_refused : (site : List ℕ) {a : Result Sums Refused} {r : Refused} {n : ℕ} → a ≡ Err r → n ≡ refusal_number r.refusal → refusal_line n r.block ≡ text_of site a
unfolding text_of
text_refused site e k = rw (e, k) refl

pub text_accepted : (site : List ℕ) {a : Result Sums Refused} {b : Sums} → a ≡ Ok b → accepted_text site b ≡ text_of site a
unfolding text_of
text_accepted site e = rw e refl

-- ---- the text left, by its room
module _ (site : List ℕ) (out : ℕ) (text : List ℕ) where
  pub short : length text < 24576 → (0 ≡ text_length site out text) × (text ≡ text_left site out text)
  unfolding text_length text_left text_room
  short h =
      let e : leb 24576 (length text) ≡ false = lt-leb 24576 (length text) h in
      (rw e, rw e)

  module _ {a : Result Sums Refused} (h : 24576 ≤ length text) (q : a ≡ site_answer site out) where
    enough : leb 24576 (length text) ≡ true
    enough = le-leb 24576 (length text) h

    pub long : {n : ℕ} → n ≡ length (text_of site a) → n ≡ text_length site out text
    unfolding text_length text_room listing_of
    long e = e ∙ ap (λ (x : Result Sums Refused). length (text_of site x)) q ∙ rw enough

    pub left : {l : List ℕ} → l ≡ over (text_of site a) text → l ≡ text_left site out text
    unfolding text_left text_room listing_of
    left e = e ∙ ap (λ (x : Result Sums Refused). over (text_of site x) text) q ∙ rw enough

  -- a text with room holds the listing, all of it, as far as the length says
  pub whole : {n : ℕ} {left : List ℕ} → n ≡ text_length site out text → left ≡ text_left site out text → 24576 ≤ length text →
      (n ≤ length left) × (take n left ≡ listing_of site out)
  unfolding text_length text_left text_room over
  whole {n} {left} p q h =
      let e : leb 24576 (length text) ≡ true = le-leb 24576 (length text) h in
      let l = listing_of site out in
      let rest = drop (length l) text in
      let long : n ≡ length l = rw e at p in
      let is : left ≡ l ++ rest = rw e at q in
      (omega (arith, long, ap length is, length-append l rest), rw (long, is) (take-append_seam l rest))
