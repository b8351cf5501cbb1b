use Rattle.std.proofs.Common.{◌≡◌, ℕ, List, ◌∷◌, ◌++◌, ◌<◌, ◌^◌, ◌/◌, codes, decimal, map, refl, sym, ◌∙◌, ap, lit≤, length, Option, Some, None, arith}
use Rattle.std.proofs.lemmas.Bool.{ltb-true, lt-ltb}
use Rattle.pei_types.specs.declared.identifiers.BlockNo.{BlockNo}
use Rattle.pei_types.specs.declared.events.EventKind.{EventKind}
use Rattle.pei_types.specs.declared.events.EventKind.TheVariants as event
use Rattle.journal.specs.Words.{first_word, words_then, Leads}
use Rattle.journal.proofs.Leading.{number_leads, index_is_word, small_is_word, word_leads, four_words}
use Rattle.pei_types.specs.declared.operations.Op.{Op}
use Rattle.pei_types.specs.declared.operations.Op.TheVariants as op
use Rattle.pei_types.specs.declared.operations.Operands.{Operands}
use Rattle.pei_types.specs.Texts.{op_words}
use Rattle.journal.specs.Named.{mnemonic, mnemonic_spelt, op_address}
use Rattle.journal.specs.declared.names.Mnemonic.{Mnemonic}
use Rattle.journal.proofs.Naming.{mnemonic_found}
use Rattle.journal.proofs.Addresses.{address_small, block_back, ranges}
use Rattle.journal.proofs.event_words.guess_issue.Goals as goal

-- the word of the operation stands first
op_leads : (text : List ℕ) (o : Op) (b : BlockNo) (words : List (List ℕ)) (more : List ℕ) → text ≡ words_then (op_words o b ++ words) more → Leads text (first_word (op_words o b)) (words_then (decimal (op_address o b) ∷ words) more)
op_leads text (op.Inc word) b words more is = word_leads text (codes "pinc") 32 _ refl refl is
op_leads text (op.Min word) b words more is = word_leads text (codes "pmin") 32 _ refl refl is
op_leads text op.Probe b words more is = word_leads text (codes "pprobe") 32 _ refl refl is
op_leads text op.Hist b words more is = word_leads text (codes "phist") 32 _ refl refl is
op_leads text op.Dot b words more is = word_leads text (codes "pdot") 32 _ refl refl is

-- the lane stands before them
lane_then : (lane : ℕ) (o : Op) (b : BlockNo) (words : List (List ℕ)) (more : List ℕ) → words_then (decimal lane ∷ (op_words o b ++ words)) more ≡ decimal lane ++ 32 ∷ words_then (op_words o b ++ words) more
lane_then lane op.Probe b words more = refl
lane_then lane _ b words more = refl

is_told : (o : Op) → (word : Mnemonic) × (mnemonic o ≡ Some word)
is_told op.Probe = (_, refl)
is_told _ = (_, refl)

issued : ℕ → ℕ → Op → ℕ → Operands → Option EventKind
issued seq lane o b operands = Some (event.Issue seq (record { 0 = lane }) o (record { 0 = b }) operands)

more_behind : (words : List ℕ) (n : ℕ) (more : List ℕ) → length words ≡ 4 → words_then (decimal n ∷ map decimal words) more ≡ decimal n ++ 32 ∷ words_then (map decimal words) more
more_behind words n more four = four_words (λ (xs : List ℕ). words_then (decimal n ∷ map decimal xs) more ≡ decimal n ++ 32 ∷ words_then (map decimal xs) more) words four (λ a b d e. refl)

pub returns-in-Some : goal.returns-in-Some
unfolding issued
returns-in-Some c seq lane o b operands more ranged is =
    let r = ranges seq lane o b operands ranged
    in let low : lane.0 < 5 = ltb-true lane.0 5 r.within
    in let near = address_small o b r.fits r.near
    in let t1 = c.split_word.ensures (decimal seq) _ (number_leads c.args.text.now seq 32 _ (index_is_word seq r.numbered) refl is)
    in let t2 = c.split_word-2.ensures (decimal lane.0) _ (number_leads c.split_word.result.1.now lane.0 32 _ (small_is_word lane.0 5 (lit≤ tt) r.within) refl (t1.1 ∙ lane_then lane.0 o b (map decimal operands.0) more))
    in let t3 = c.split_word-3.ensures (first_word (op_words o b)) _ (op_leads c.split_word-2.result.1.now o b (map decimal operands.0) more t2.1)
    in let t4 = c.split_word-4.ensures (decimal (op_address o b)) _ (number_leads c.split_word-3.result.1.now (op_address o b) 32 _ (lt-ltb (op_address o b) (2 ^ 64) (omega (arith, near))) refl (t3.1 ∙ more_behind operands.0 (op_address o b) more r.four))
    in let found : c.of.result ≡ mnemonic o = c.of.ensures ∙ ap mnemonic_spelt t3.0 ∙ mnemonic_found o b
    in let n1 : c.index_of.result ≡ seq = c.index_of.ensures seq (ltb-true seq _ r.numbered) t1.0
    in let n2 : c.byte_of.result ≡ lane.0 = c.byte_of.ensures lane.0 (omega (arith, low)) t2.0
    in let n3 : c.index_of-addr.result ≡ op_address o b = c.index_of-addr.ensures (op_address o b) (omega (arith, near)) t4.0
    in let n4 : c.op_at.result ≡ o = c.op_at.ensures o b r.fits (sym found ∙ c.in-Some.is) n3
    in let n5 : c.index_of-addr.result / 64 ≡ b.0 = ap (λ n. n / 64) n3 ∙ block_back o b r.fits
    in let n6 : c.guess_operands.result ≡ operands = c.guess_operands.ensures operands more r.small t4.1
    in ap (λ n. issued n c.byte_of.result c.op_at.result (c.index_of-addr.result / 64) c.guess_operands.result) n1
    ∙ ap (λ n. issued seq n c.op_at.result (c.index_of-addr.result / 64) c.guess_operands.result) n2
    ∙ ap (λ n. issued seq lane.0 n (c.index_of-addr.result / 64) c.guess_operands.result) n4
    ∙ ap (λ n. issued seq lane.0 o n c.guess_operands.result) n5
    ∙ ap (λ n. issued seq lane.0 o b.0 n) n6

pub returns-in-None : goal.returns-in-None
returns-in-None c seq lane o b operands more ranged is =
    let r = ranges seq lane o b operands ranged
    in let t1 = c.split_word.ensures (decimal seq) _ (number_leads c.args.text.now seq 32 _ (index_is_word seq r.numbered) refl is)
    in let t2 = c.split_word-2.ensures (decimal lane.0) _ (number_leads c.split_word.result.1.now lane.0 32 _ (small_is_word lane.0 5 (lit≤ tt) r.within) refl (t1.1 ∙ lane_then lane.0 o b (map decimal operands.0) more))
    in let t3 = c.split_word-3.ensures (first_word (op_words o b)) _ (op_leads c.split_word-2.result.1.now o b (map decimal operands.0) more t2.1)
    in let found : c.of.result ≡ mnemonic o = c.of.ensures ∙ ap mnemonic_spelt t3.0 ∙ mnemonic_found o b
    in let word = is_told o
    in let none : None ≡ Some word.0 = sym c.in-None.is ∙ found ∙ word.1
    in absurd (cc none)
