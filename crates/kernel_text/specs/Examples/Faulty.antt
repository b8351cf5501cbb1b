-- Texts with a fault, each with its line, its column and its kind.
use Rattle.std.specs.Prelude.{◌≡◌, ℕ, ◌++◌, [], ◌∷◌, List, Option, Some, None, codes, replicate, flat_map}
use Rattle.kernel_text.specs.declared.faults.KernelKind.{KernelKind}
use Rattle.kernel_text.specs.declared.faults.KernelKind.TheVariants as kind
use Rattle.kernel_text.specs.declared.faults.KernelFault.{KernelFault}
use Rattle.kernel_text.specs.Tokens.{tokens_of, end_of}
use Rattle.kernel_text.specs.Known.{at_start}
use Rattle.kernel_text.specs.Faults.{first_fault, first_token_fault}

-- the text has this fault first
abbrev pub Fails : List ℕ → ℕ → ℕ → KernelKind → Type 0
Fails text line column k = first_fault text ≡ Some (record { line = line; column = column; kind = k })

abbrev pub Passes : List ℕ → Type 0
Passes text = first_fault text ≡ None

pub record Characters : Type 0 where
  pub alone : Fails (codes "print 1 ! 2;") 1 9 kind.BadChar
  pub letter : Fails (codes "print 12ab;") 1 9 kind.BadChar
  pub underscore : Fails (codes "print 1_0;") 1 8 kind.BadChar
  pub in_comment : Fails (codes "# " ++ 0xC3 ∷ 0xA4 ∷ []) 1 3 kind.BadChar
  pub before_syntax : Fails (codes "print ;\n $") 2 2 kind.BadChar
  pub too_large : Fails (codes "print 18446744073709551616;") 1 7 kind.NumberTooLarge
  pub too_large_first : Fails (codes "print 18446744073709551616x;") 1 7 kind.NumberTooLarge
  pub greatest : Passes (codes "print 18446744073709551615;")
  pub comment : Passes (codes "# $ 1a\nprint 1; # 2x")

pub record Syntaxes : Type 0 where
  pub empty : Passes []
  pub token : Fails (codes "print ;") 1 7 kind.Syntax
  pub end : Fails (codes "print 1") 1 8 kind.Syntax
  pub end_on_next_line : Fails (codes "print 1\n") 2 1 kind.Syntax
  pub end_in_comment : Fails (codes "print 1 # 2") 1 12 kind.Syntax
  pub late_declaration : Fails (codes "print 1;\narray A[8];") 2 1 kind.Syntax
  pub keyword : Fails (codes "for print < 2 { }") 1 5 kind.Syntax
  pub no_value : Fails (codes "table T[8] = ;") 1 14 kind.Syntax
  pub stray_brace : Fails (codes "for i < 2 { } }") 1 15 kind.Syntax

pub record Names : Type 0 where
  pub twice : Fails (codes "array A[8];\ntable A[8] = 1;") 2 7 kind.DoubleName
  pub unknown : Fails (codes "print x;") 1 7 kind.Unknown
  pub unknown_item : Fails (codes "print A[0];") 1 7 kind.Unknown
  pub unknown_operand : Fails (codes "table T[8] = 1; a = 1; b = dot T[0], a, a, c, a;") 1 44 kind.Unknown
  pub itself : Passes (codes "a = a;")
  pub table_written : Fails (codes "table T[8] = 1;\ninc T[0];") 2 5 kind.WrongKind
  pub array_probed : Fails (codes "array A[8]; a, b = probe A[0], 1;") 1 26 kind.WrongKind
  pub undeclared_written : Fails (codes "inc x[0];") 1 5 kind.WrongKind
  pub variable_as_array : Fails (codes "a = 1; print a[0];") 1 14 kind.WrongKind
  pub array_as_variable : Fails (codes "array A[8]; print A;") 1 19 kind.WrongKind
  pub array_assigned : Fails (codes "array A[8]; A = 1;") 1 13 kind.WrongKind
  pub table_stored : Fails (codes "table T[8] = 1; T[0] = 1;") 1 17 kind.WrongKind
  pub table_read : Passes (codes "table T[8] = 1; print T[0];")
  pub loop_assigned : Fails (codes "for i < 2 { i = 1; }") 1 13 kind.LoopVariable
  pub loop_counted : Fails (codes "for i < 2 { for i < 3 { } }") 1 17 kind.LoopVariable
  pub behind_loop : Passes (codes "for i < 2 { } i = 1;")
  pub ninth : Fails (codes "a=1;b=1;c=1;d=1;e=1;f=1;g=1;h=1;\ni=1;") 2 1 kind.TooManyVariables
  pub assigned_before_syntax : Fails (codes "array A[8]; A 1;") 1 13 kind.WrongKind

-- so many equal texts one after another
abbrev pub times : ℕ → List ℕ → List ℕ
times n text = flat_map (λ piece. piece) (replicate n text)

pub record Sizes : Type 0 where
  pub no_power : Fails (codes "array A[9];") 1 9 kind.BadSize
  pub too_small : Fails (codes "array A[4];") 1 9 kind.BadSize
  pub no_turns : Fails (codes "for i < 0 { }") 1 9 kind.BadSize
  pub too_many_turns : Fails (codes "for i < 1000001 { }") 1 9 kind.BadSize
  pub shift : Fails (codes "table T[8] = 1; a, b = hist T[0], 25;") 1 35 kind.BadSize
  pub values : Fails (codes "table T[8] = 1,2,3,4,5,6,7,8,9;") 1 30 kind.TooManyValues
  pub words : Fails (codes "array A[4096]; array B[4096]; array C[4096]; array D[4096]; array E[4096]; array F[4096]; array G[4096]; array H[4096];\narray I[8];") 2 9 kind.TooManyWords
  pub just_words : Passes (codes "array A[4096]; array B[4096]; array C[4096]; array D[4096]; array E[4096]; array F[4096]; array G[4096]; array H[4096];")

pub record Depths : Type 0 where
  pub deep : Fails (codes "print 1 + (1 + (1 + (1 + 1)));") 1 26 kind.TooDeep
  pub four : Passes (codes "print 1 + (1 + (1 + 1));")
  pub to_the_left : Passes (codes "print (((1 + 1) + 1) + 1) + 1;")
  pub in_index : Fails (codes "array A[8]; print 1 + A[1 + A[1 + A[1 + 1]]];") 1 41 kind.TooDeep
  pub nested : Fails (codes "print " ++ times 17 (codes "(")) 1 23 kind.TooNested
  pub sixteen : Passes (codes "print " ++ times 16 (codes "(") ++ codes "1" ++ times 16 (codes ")") ++ codes ";")

-- the first fault of a text in which so many parts have begun before
abbrev pub fault_behind : ℕ → List ℕ → Option KernelFault
fault_behind begun text = first_token_fault (end_of text) (tokens_of text) (record at_start { begun = begun })

pub record Lengths : Type 0 where
  -- a statement, an operator and two terms
  pub most : fault_behind 3996 (codes "j = 1 + 1;") ≡ None
  pub last_term : fault_behind 3997 (codes "j = 1 + 1;") ≡ Some (record { line = 1; column = 9; kind = kind.TooLong })
  pub operator : fault_behind 3998 (codes "j = 1 + 1;") ≡ Some (record { line = 1; column = 7; kind = kind.TooLong })
  pub term : fault_behind 3999 (codes "j = 1 + 1;") ≡ Some (record { line = 1; column = 5; kind = kind.TooLong })
  pub statement : fault_behind 4000 (codes "j = 1 + 1;") ≡ Some (record { line = 1; column = 1; kind = kind.TooLong })
  pub declarations : fault_behind 4000 (codes "table T[8] = 1, 2;") ≡ None
