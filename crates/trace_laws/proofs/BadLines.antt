-- Texts that begin with the lines of two journals.
use Rattle.std.proofs.Common.{◌≡◌, ◌≢◌, ◌⊎◌, inl, inr, ℕ, suc, ◌+◌, ◌≤◌, Bool, true, ◌&&◌, List, [], ◌∷◌, ◌++◌, length, codes, drop, flat_map, refl, sym, ◌∙◌, ap, subst, arith}
use Rattle.std.specs.List.{list_all}
use Rattle.std.proofs.lemmas.Bool.{and_parts}
use Rattle.std.proofs.lemmas.List.{append_assoc, append-nil, length-append}
use Rattle.std.proofs.Math.Seq.{drop-append_seam}
use Rattle.pei_types.specs.declared.events.Event.{Event}
use Rattle.pei_types.specs.Texts.{actor_word, event_line, event_words, spaced, trace_text}
use Rattle.journal.specs.Laws.{TracesAreApart}
use Rattle.journal.specs.Traces.{BeginsNoLine, EndsAt, IsFirstBad, IsTrace, LacksHeader, in_ranges}

-- the first line of a trace
abbrev header : List ℕ
header = codes "peisim-trace 1 mesi\n"

-- what follows so many events is bad: they are as many as a trace may have, or no line stands first
abbrev IsBad : ℕ → List ℕ → Type 0
IsBad n rest = (n ≡ 1048576) ⊎ BeginsNoLine rest

-- a line is not empty
line_some : (e : Event) (more : List ℕ) → event_line e ++ more ≡ [] → ⊥
line_some e more none =
    let words = spaced (actor_word e.actor ∷ event_words e.kind)
    in let whole : length (event_line e ++ more) ≡ length words + 1 + length more = length-append (event_line e) more ∙ ap (λ n. n + length more) (length-append words (10 ∷ []))
    in omega (arith, whole, ap length none)

-- where the events of one journal end in what is bad, those of the other end too
ends_before : TracesAreApart → (es fs : List Event) (r s : List ℕ) (n : ℕ) → list_all in_ranges es ≡ true → list_all in_ranges fs ≡ true → flat_map event_line es ++ r ≡ flat_map event_line fs ++ s → IsBad (n + length es) r → n + length fs ≤ 1048576 → length fs ≤ length es
ends_before laws es [] r s n h k same bad few = omega arith
ends_before laws [] (f ∷ fs) r s n h k same (inl full) few = absurd (omega (arith, full, few))
ends_before laws [] (f ∷ fs) r s n h k same (inr no_line) few =
    absurd (no_line f (flat_map event_line fs ++ s) (and_parts (in_ranges f) (list_all in_ranges fs) k).0 (same ∙ append_assoc (event_line f) (flat_map event_line fs) s))
ends_before laws (e ∷ es) (f ∷ fs) r s n h k same bad few =
    let p = and_parts (in_ranges e) (list_all in_ranges es) h
    in let q = and_parts (in_ranges f) (list_all in_ranges fs) k
    in let t = laws.one_event e f (flat_map event_line es ++ r) (flat_map event_line fs ++ s) p.0 q.0 (sym (append_assoc (event_line e) (flat_map event_line es) r) ∙ same ∙ append_assoc (event_line f) (flat_map event_line fs) s)
    in let rest : length fs ≤ length es = ends_before laws es fs r s (n + 1) p.1 q.1 t.1 (subst (λ k. IsBad k r) (omega arith) bad) (omega (arith, few))
    in omega (arith, rest)

-- so a text of as many lines has nothing behind them
nothing_behind : TracesAreApart → (es fs : List Event) (r : List ℕ) → list_all in_ranges es ≡ true → list_all in_ranges fs ≡ true → flat_map event_line es ++ r ≡ flat_map event_line fs → length fs ≤ length es → r ≡ []
nothing_behind laws [] [] r h k same few = same
nothing_behind laws (e ∷ es) [] r h k same few = absurd (line_some e (flat_map event_line es ++ r) (sym (append_assoc (event_line e) (flat_map event_line es) r) ∙ same))
nothing_behind laws [] (f ∷ fs) r h k same few = absurd (omega (arith, few))
nothing_behind laws (e ∷ es) (f ∷ fs) r h k same few =
    let p = and_parts (in_ranges e) (list_all in_ranges es) h
    in let q = and_parts (in_ranges f) (list_all in_ranges fs) k
    in let t = laws.one_event e f (flat_map event_line es ++ r) (flat_map event_line fs) p.0 q.0 (sym (append_assoc (event_line e) (flat_map event_line es) r) ∙ same)
    in nothing_behind laws es fs r p.1 q.1 t.1 (omega (arith, few))

-- behind the header
lines_of : (front : List Event) (rest : List ℕ) → drop (length header) (trace_text front ++ rest) ≡ flat_map event_line front ++ rest
lines_of front rest = ap (drop (length header)) (append_assoc header (flat_map event_line front) rest) ∙ drop-append_seam header (flat_map event_line front ++ rest)

from_start : (front : List Event) (rest : List ℕ) → IsBad (length front) rest → IsBad (0 + length front) rest
from_start front rest bad = subst (λ k. IsBad k rest) (omega arith) bad

-- a text that lacks the header has no events' lines behind one
lacks : (text : List ℕ) (front : List Event) (rest : List ℕ) → LacksHeader text → text ≡ trace_text front ++ rest → ⊥
lacks text front rest none whole = none (flat_map event_line front ++ rest) (whole ∙ append_assoc header (flat_map event_line front) rest)

pub never_both : TracesAreApart → (text : List ℕ) (journal : List Event) (line : ℕ) → IsTrace text journal → IsFirstBad text line → ⊥
never_both laws text journal line trace (inl (first, none)) = none (flat_map event_line journal) trace.spelt
never_both laws text journal line trace (inr at) =
    let same : flat_map event_line at.front ++ at.rest ≡ flat_map event_line journal =
    sym (lines_of at.front at.rest) ∙ ap (drop (length header)) (sym at.whole ∙ trace.spelt) ∙ drop-append_seam header (flat_map event_line journal)
    in let few : length journal ≤ length at.front = ends_before laws at.front journal at.rest [] 0 at.before.ranged trace.ranged (same ∙ sym (append-nil (flat_map event_line journal))) (from_start at.front at.rest at.bad) (omega (arith, trace.few))
    in at.more (nothing_behind laws at.front journal at.rest at.before.ranged trace.ranged same few)

pub one_line : TracesAreApart → (text : List ℕ) (line other : ℕ) → IsFirstBad text line → IsFirstBad text other → line ≡ other
one_line laws text line other (inl (first, none)) (inl (second, lacking)) = first ∙ sym second
one_line laws text line other (inl (first, none)) (inr at) = absurd (lacks text at.front at.rest none at.whole)
one_line laws text line other (inr at) (inl (second, none)) = absurd (lacks text at.front at.rest none at.whole)
one_line laws text line other (inr one) (inr two) =
    let same : flat_map event_line one.front ++ one.rest ≡ flat_map event_line two.front ++ two.rest =
    sym (lines_of one.front one.rest) ∙ ap (drop (length header)) (sym one.whole ∙ two.whole) ∙ lines_of two.front two.rest
    in let below : length two.front ≤ length one.front = ends_before laws one.front two.front one.rest two.rest 0 one.before.ranged two.before.ranged same (from_start one.front one.rest one.bad) (omega (arith, two.before.few))
    in let above : length one.front ≤ length two.front = ends_before laws two.front one.front two.rest one.rest 0 two.before.ranged one.before.ranged (sym same) (from_start two.front two.rest two.bad) (omega (arith, one.before.few))
    in omega (arith, one.number, two.number, below, above)
