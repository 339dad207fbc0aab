-- A printed run fixes its history: two histories that differ in more than their stamps are not printed alike.
use Rattle.std.specs.Prelude.{◌≡◌, ℕ, ◌^◌, ◌<◌, Option, List, [], ◌∷◌, length, map}
use Rattle.pc_model.specs.declared.call.Call.{Call}
use Rattle.pc_model.specs.declared.call.Call.TheVariants.{Put, Get, Remove, Ceil, Floor}
use Rattle.pc_model.specs.declared.call.Reply.{Reply}
use Rattle.pc_model.specs.declared.call.Reply.TheVariants.{New, Was, Value, None as Nothing, Pair}
use Rattle.pc_model.specs.declared.call.Entry.{Entry}
use Rattle.pc_text.specs.declared.shape.ShapeLine.{ShapeLine}
use Rattle.pc_text.specs.Printed.{printed_run}

-- a number of 64 bits
abbrev pub IsWord : ℕ → Type 0
IsWord n = n < 2 ^ 64

abbrev pub CallFits : Call → Type 0
CallFits (Put k v) = IsWord k × IsWord v
CallFits (Get k) = IsWord k
CallFits (Remove k) = IsWord k
CallFits (Ceil k) = IsWord k
CallFits (Floor k) = IsWord k

abbrev pub ReplyFits : Reply → Type 0
ReplyFits New = Unit {0}
ReplyFits (Was x) = IsWord x
ReplyFits (Value x) = IsWord x
ReplyFits Nothing = Unit {0}
ReplyFits (Pair k x) = IsWord k × IsWord x

-- the numbers of an entry are as wide as the program's
pub record EntryFits (e : Entry) : Type 0 where
  pub pass : IsWord e.pass
  pub number : IsWord e.number
  pub call : CallFits e.call
  pub reply : ReplyFits e.reply

abbrev pub EntriesFit : List Entry → Type 0
EntriesFit [] = Unit {0}
EntriesFit (e ∷ es) = EntryFits e × EntriesFit es

abbrev pub PairsFit : List (ℕ × ℕ) → Type 0
PairsFit [] = Unit {0}
PairsFit (p ∷ ps) = IsWord p.0 × IsWord p.1 × PairsFit ps

pub record RunFits (history : List Entry) (left : List (ℕ × ℕ)) : Type 0 where
  pub lines : IsWord (length history)
  pub entries : EntriesFit history
  pub count : IsWord (length left)
  pub pairs : PairsFit left

-- all of an entry but its stamp
abbrev pub shown : Entry → ℕ × ℕ × Call × Reply
shown e = (e.pass, e.number, e.call, e.reply)

abbrev pub FixesHistory : Type 0
FixesHistory = (one other : List Entry) (left left' : List (ℕ × ℕ)) (shape shape' : Option (List ShapeLine))
    → RunFits one left → RunFits other left' → printed_run one left shape ≡ printed_run other left' shape'
    → (map shown one ≡ map shown other) × (left ≡ left')
