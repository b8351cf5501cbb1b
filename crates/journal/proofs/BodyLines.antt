-- The lines of events, one event more.
use Rattle.std.proofs.Common.{codes, inr, suc, ◌≡◌, ℕ, ◌+◌, ◌-◌, ◌<◌, true, List, [], ◌∷◌, ◌++◌, length, take, drop, flat_map, refl, sym, ◌∙◌, ap, arith, length-append, length-drop}
use Rattle.std.specs.List.{list_all}
use Rattle.std.proofs.lemmas.Bool.{and_parts}
use Rattle.std.proofs.lemmas.List.{append_assoc, append-nil, take_all}
use Rattle.std.proofs.lemmas.List.Folds.{list_all-append}
use Rattle.std.proofs.lemmas.Grind.{flat_map-append, common_steps}
use Rattle.pei_types.specs.declared.events.Event.{Event}
use Rattle.pei_types.specs.Texts.{actor_word, event_line, event_words, spaced}
use Rattle.std.proofs.Common.{Result, Ok, Err, MatchResult}
use Rattle.std.proofs.Math.Seq.{drop-append_seam}
use Rattle.journal.specs.Recorded.{Recorded}
use Rattle.journal.specs.declared.reading.TraceFault.{TraceFault}
use Rattle.journal.specs.declared.reading.TraceFault.TheVariants as fault
use Rattle.journal.specs.Traces.{in_ranges, BeginsNoLine, IsTrace, IsTraceFault}
use Rattle.journal.specs.Bodies.{line_feeds, IsBody, StopsAt}

-- what is behind a place of a text
pub rest_is : (text : List ℕ) (n : ℕ) → take (length text - n) (drop n text) ≡ drop n text
rest_is text n = take_all (length text - n) (drop n text) (omega (arith, length-drop n text))

pub spelt_on : (text rest : List ℕ) (events : List Event) (e : Event) (n : ℕ) → text ≡ flat_map event_line events ++ rest → rest ≡ event_line e ++ drop n rest → text ≡ flat_map event_line (events ++ e ∷ []) ++ take (length rest - n) (drop n rest)
spelt_on text rest events e n is here =
    is
    ∙ ap (λ t. flat_map event_line events ++ t) here
    ∙ sym (append_assoc (flat_map event_line events) (event_line e) (drop n rest))
    ∙ ap (λ t. (flat_map event_line events ++ t) ++ drop n rest) (sym (append-nil (event_line e)))
    ∙ ap (λ t. t ++ drop n rest) (sym (flat_map-append event_line events (e ∷ [])))
    ∙ ap (λ t. flat_map event_line (events ++ e ∷ []) ++ t) (sym (rest_is rest n))

pub ranged_on : (events : List Event) (e : Event) → list_all in_ranges events ≡ true → in_ranges e ≡ true → list_all in_ranges (events ++ e ∷ []) ≡ true
ranged_on events e all here = list_all-append in_ranges events (e ∷ []) ∙ rw (all, here) refl

feeds_append : (xs ys : List ℕ) → line_feeds (xs ++ ys) ≡ line_feeds xs + line_feeds ys
feeds_append xs ys = grind (arith, common_steps)

-- the line of an event has a line feed
pub lines_on : (rest : List ℕ) (e : Event) (n : ℕ) → rest ≡ event_line e ++ drop n rest → line_feeds (take (length rest - n) (drop n rest)) < line_feeds rest
lines_on rest e n here =
    let words = spaced (actor_word e.actor ∷ event_words e.kind)
    in let whole : line_feeds rest ≡ line_feeds (event_line e) + line_feeds (drop n rest) = ap line_feeds here ∙ feeds_append (event_line e) (drop n rest)
    in let own : line_feeds (event_line e) ≡ line_feeds words + 1 = feeds_append words (10 ∷ [])
    in let behind : line_feeds (take (length rest - n) (drop n rest)) ≡ line_feeds (drop n rest) = ap line_feeds (rest_is rest n)
    in omega (arith, whole, own, behind)

-- ---- the only events whose lines a text is

-- Of the events that the text's lines are, these come first, and the rest is the lines of the others.
abbrev pub Ahead : List ℕ → List Event → List ℕ → Type 0
Ahead text events rest = (all : List Event) → IsBody text all → (tail : List Event) × (all ≡ events ++ tail) × (rest ≡ flat_map event_line tail)

pub line_some : (e : Event) (more : List ℕ) → event_line e ++ more ≡ [] → ⊥
line_some e more none =
    let words = spaced (actor_word e.actor ∷ event_words e.kind)
    in let whole : length (event_line e ++ more) ≡ length words + 1 + length more = length-append (event_line e) more ∙ ap (λ n. n + length more) (length-append words (10 ∷ []))
    in let nothing : length (event_line e ++ more) ≡ 0 = ap length none
    in absurd (omega (arith, whole, nothing))

no_tail : (tail : List Event) → flat_map event_line tail ≡ [] → tail ≡ []
no_tail [] none = refl
no_tail (e ∷ tail) none = absurd (line_some e (flat_map event_line tail) none)

pub ahead_at_start : (text : List ℕ) → Ahead text [] text
ahead_at_start text all body = (all, refl, body.spelt)

-- the event of a tail's first line
tail_ranged : (events : List Event) (e : Event) (tail : List Event) → list_all in_ranges (events ++ e ∷ tail) ≡ true → in_ranges e ≡ true
tail_ranged events e tail all =
    let both = and_parts (list_all in_ranges events) (list_all in_ranges (e ∷ tail)) (sym (list_all-append in_ranges events (e ∷ tail)) ∙ all)
    in (and_parts (in_ranges e) (list_all in_ranges tail) both.1).0

pub ahead_on : (text rest : List ℕ) (events : List Event) (e : Event) (n : ℕ) → (rest ≡ [] → ⊥) → ((f : Event) (more : List ℕ) → in_ranges f ≡ true → rest ≡ event_line f ++ more → (e ≡ f) × (drop n rest ≡ more)) → Ahead text events rest → Ahead text (events ++ e ∷ []) (take (length rest - n) (drop n rest))
ahead_on text rest events e n some first ahead all body = by_tail (ahead all body)
  where
    by_tail : (tail : List Event) × (all ≡ events ++ tail) × (rest ≡ flat_map event_line tail) → (tail : List Event) × (all ≡ (events ++ e ∷ []) ++ tail) × (take (length rest - n) (drop n rest) ≡ flat_map event_line tail)
    by_tail ([], is, here) = absurd (some here)
    by_tail (f ∷ tail, is, here) =
        let found = first f (flat_map event_line tail) (tail_ranged events f tail (ap (list_all in_ranges) (sym is) ∙ body.ranged)) here
        in (
          tail,
          is ∙ ap (λ x. events ++ x ∷ tail) (sym found.0) ∙ sym (append_assoc events (e ∷ []) tail),
          rest_is rest n ∙ found.1,
        )

pub ahead_at_end : (text rest : List ℕ) (events : List Event) → rest ≡ [] → Ahead text events rest → (all : List Event) → IsBody text all → events ≡ all
ahead_at_end text rest events none ahead all body =
    let t = ahead all body
    in sym (t.1 ∙ ap (λ tail. events ++ tail) (no_tail t.0 (sym t.2 ∙ none)) ∙ append-nil events)

pub not_ahead_full : (text rest : List ℕ) (events : List Event) → (rest ≡ [] → ⊥) → length events ≡ 1048576 → Ahead text events rest → (all : List Event) → IsBody text all → ⊥
not_ahead_full text rest events some full ahead all body = by_tail (ahead all body)
  where
    by_tail : (tail : List Event) × (all ≡ events ++ tail) × (rest ≡ flat_map event_line tail) → ⊥
    by_tail ([], is, here) = some here
    by_tail (f ∷ tail, is, here) =
        let long : length all ≡ 1048576 + suc (length tail) = ap length is ∙ length-append events (f ∷ tail) ∙ ap (λ k. k + suc (length tail)) full
        in absurd (omega (arith, long, body.few))

pub not_ahead_none : (text rest : List ℕ) (events : List Event) → (rest ≡ [] → ⊥) → BeginsNoLine rest → Ahead text events rest → (all : List Event) → IsBody text all → ⊥
not_ahead_none text rest events some none ahead all body = by_tail (ahead all body)
  where
    by_tail : (tail : List Event) × (all ≡ events ++ tail) × (rest ≡ flat_map event_line tail) → ⊥
    by_tail ([], is, here) = some here
    by_tail (f ∷ tail, is, here) = none f (flat_map event_line tail) (tail_ranged events f tail (ap (list_all in_ranges) (sym is) ∙ body.ranged)) here

-- ---- the first line and the lines behind it

abbrev pub header : List ℕ
header = codes "peisim-trace 1 mesi\n"

pub whole_trace : (text rest : List ℕ) (events : List Event) → text ≡ header ++ rest → IsBody rest events → IsTrace text events
whole_trace text rest events is body = record { few = body.few; ranged = body.ranged; spelt = is ∙ ap (λ t. header ++ t) body.spelt }

pub whole_fault : (text rest : List ℕ) (f : TraceFault) → text ≡ header ++ rest → StopsAt rest f → IsTraceFault text f
whole_fault text rest (fault.Bad number) is (count, at, stops) =
    inr (record {
      front = stops.front;
      rest = stops.rest;
      before = record { few = stops.few; ranged = stops.ranged; spelt = refl };
      whole = is ∙ ap (λ t. header ++ t) stops.whole ∙ sym (append_assoc header (flat_map event_line stops.front) stops.rest);
      number = at ∙ ap (λ n. n + 2) stops.number;
      more = stops.more;
      bad = stops.bad;
    })
whole_fault text rest fault.OutOfMemory is stops = absurd stops

-- a trace's events are those of the lines behind the first
pub only_whole : (text rest : List ℕ) (r : Result Recorded TraceFault) → text ≡ header ++ rest → ((events : List Event) → IsBody rest events → MatchResult r (λ j. j.events ≡ events) (λ f. ⊥)) → (journal : List Event) → IsTrace text journal → MatchResult r (λ j. j.events ≡ journal) (λ f. f ≡ fault.OutOfMemory)
only_whole text rest r is only journal trace =
    weaker r (only journal (record { few = trace.few; ranged = trace.ranged; spelt = sym (drop-append_seam header rest) ∙ ap (drop (length header)) (sym is ∙ trace.spelt) ∙ drop-append_seam header (flat_map event_line journal) }))
  where
    weaker : (r : Result Recorded TraceFault) → MatchResult r (λ j. j.events ≡ journal) (λ f. ⊥) → MatchResult r (λ j. j.events ≡ journal) (λ f. f ≡ fault.OutOfMemory)
    weaker (Ok j) h = h
    weaker (Err f) h = absurd h
