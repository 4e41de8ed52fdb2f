-- How many lines the sections of a text have that promise something (document 02, F-7).
use Rattle.std.specs.Prelude.{◌≡◌, length}
use Rattle.node.specs.Result.{Done}
use Rattle.language.specs.Tree.{Preset, Assert, Guarantee, Spec}
use Rattle.language.specs.DeclaredNames.{Declarations}
use Rattle.language.specs.Lines.{lines}
use Rattle.language.specs.Expansion.{Sections, gather, at_signals, define_all, expand_section, lines_of}
use Rattle.line_counts.specs.declared.LineCounts.{LineCounts}

-- the written lines of a section and its implied ones
abbrev pub counts_of : Sections → LineCounts
counts_of ss = record { preset = length (lines_of Preset ss); assert = length (lines_of Assert ss); guarantee = length (lines_of Guarantee ss) }

-- the counts of a text, by what it declares: if no line of it is refused
abbrev pub CountsOf : Spec → Declarations → LineCounts → Type 0
CountsOf x d k = (ss : Sections) → gather (expand_section (define_all (at_signals d) x.definitions)) (lines x d) ≡ Done ss → k ≡ counts_of ss
