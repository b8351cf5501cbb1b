-- One token more.
use Rattle.std.proofs.Common.{◌≡◌, ℕ, ◌+◌, ◌<◌, List, Option, Some, None, sym, ap, ◌∙◌, map, drop, length, add-one}
use Rattle.std.specs.Prelude.{option_map, get_or}
use Rattle.std.specs.Option.{option_or}
use Rattle.std.proofs.Math.Seq.{drop-cons}
use Rattle.kernel_text.specs.declared.faults.KernelFault.{KernelFault}
use Rattle.kernel_text.specs.declared.faults.KernelKind.{KernelKind}
use Rattle.kernel_text.specs.declared.places.Place.{Place}
use Rattle.kernel_text.specs.declared.senses.Sense.{Sense}
use Rattle.kernel_text.specs.declared.senses.Wanted.{Wanted}
use Rattle.kernel_text.specs.declared.tokens.Lexeme.{Lexeme}
use Rattle.kernel_text.specs.Tokens.{Token, Placed}
use Rattle.kernel_text.specs.Characters.{fault_at}
use Rattle.kernel_text.specs.Lexemes.{placed_of}
use Rattle.kernel_text.specs.Readings.{read}
use Rattle.kernel_text.specs.Senses.{taken, reading_of}
use Rattle.kernel_text.specs.Known.{Known, known_after}
use Rattle.kernel_text.specs.Faults.{behind_token, kind_of_trials, trials, first_token_fault, next_of}

-- what a reader knows once it has read a token, and has learned nothing of it yet
abbrev wanting : Known → List Wanted → Known
wanting k behind = record k { wanted = behind }

pub step_fault : (inside k : Known) (behind : List Wanted) (found : Option Sense) (s : Sense) (t : Placed) (next : Option Token) (later : Known → Option KernelFault) (kind : KernelKind)
    → inside ≡ k → taken found behind ≡ read inside.wanted t.token next → found ≡ Some s
    → Some kind ≡ kind_of_trials (trials (wanting inside behind) (reading_of s behind) t.token)
    → behind_token k t later (read k.wanted t.token next) ≡ Some (fault_at t.place kind)
step_fault inside k behind found s t next later kind same reads is fails =
    ap (λ (x : Known). behind_token x t later (read x.wanted t.token next)) (sym same)
    ∙ ap (behind_token inside t later) (sym reads ∙ ap (λ o. taken o behind) is)
    ∙ ap (λ o. option_or (option_map (fault_at t.place) o) (later (known_after inside (reading_of s behind) t.token))) (sym fails)

pub step_on : (inside k new : Known) (behind : List Wanted) (found : Option Sense) (s : Sense) (t : Placed) (next : Option Token) (later : Known → Option KernelFault)
    → inside ≡ k → taken found behind ≡ read inside.wanted t.token next → found ≡ Some s
    → None ≡ kind_of_trials (trials (wanting inside behind) (reading_of s behind) t.token)
    → new ≡ known_after (wanting inside behind) (reading_of s behind) t.token
    → behind_token k t later (read k.wanted t.token next) ≡ later new
step_on inside k new behind found s t next later same reads is passes learned =
    ap (λ (x : Known). behind_token x t later (read x.wanted t.token next)) (sym same)
    ∙ ap (behind_token inside t later) (sym reads ∙ ap (λ o. taken o behind) is)
    ∙ ap (λ o. option_or (option_map (fault_at t.place) o) (later (known_after inside (reading_of s behind) t.token))) (sym passes)
    ∙ ap later (sym learned)

-- the token at a place, and those behind it
pub fault_from : (end : Place) (items : List Lexeme) (i : ℕ) (d : Lexeme) (next : Option Token) (k : Known) → i < length items
    → next ≡ next_of (map placed_of (drop (i + 1) items))
    → first_token_fault end (map placed_of (drop i items)) k ≡ behind_token k (placed_of (get_or items i d)) (first_token_fault end (map placed_of (drop (i + 1) items))) (read k.wanted (placed_of (get_or items i d)).token next)
fault_from end items i d next k within follows =
    ap (λ xs. first_token_fault end (map placed_of xs) k) (drop-cons items i d within)
    ∙ ap (λ n. behind_token k (placed_of (get_or items i d)) (first_token_fault end (map placed_of (drop n items))) (read k.wanted (placed_of (get_or items i d)).token (next_of (map placed_of (drop n items))))) (sym (add-one i))
    ∙ ap (λ o. behind_token k (placed_of (get_or items i d)) (first_token_fault end (map placed_of (drop (i + 1) items))) (read k.wanted (placed_of (get_or items i d)).token o)) (sym follows)
