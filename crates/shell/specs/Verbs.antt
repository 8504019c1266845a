-- The words that commands begin with.
--
-- verbs      the commands in the order in which `help` prints them
-- name_of v  the word of the command v
-- verb_of w  the command that the word w names
use Rattle.std.specs.Prelude.{ℕ, List, [], ◌∷◌, Option, codes}
use Rattle.std.specs.List.{find}
use Rattle.std.specs.Str.{bytes_eq}
use Rattle.shell.specs.declared.verb.Verb.{Verb}
use Rattle.shell.specs.declared.verb.Verb.TheVariants.{Flat, Sparse, Layer, Write, Read, Store, First, Second, Compare, Survey, Found, Take, Audit, Close, Size, Mark, Free, Add, Load, Grow, Settle, Point, Sum, Mean, Busiest, Trend, Cells, Line, Ring, Put, Welcome, Begin, Next, End, Replied, Help}

abbrev pub verbs : List Verb
verbs =
    Flat ∷ Sparse ∷ Layer ∷ Write ∷ Read ∷ Store ∷ First ∷ Second ∷ Compare ∷ Survey ∷ Found ∷ Take ∷ Audit ∷ Close ∷ Size ∷ Mark ∷ Free ∷ Add ∷ Load ∷ Grow ∷ Settle ∷ Point ∷ Sum ∷ Mean ∷ Busiest ∷ Trend ∷ Cells ∷ Line ∷ Ring ∷ Put ∷ Welcome ∷ Begin ∷ Next ∷ End ∷ Replied ∷ Help ∷ []

abbrev pub name_of : Verb → List ℕ
name_of Flat = codes "flat"
name_of Sparse = codes "sparse"
name_of Layer = codes "layer"
name_of Write = codes "write"
name_of Read = codes "read"
name_of Store = codes "store"
name_of First = codes "first"
name_of Second = codes "second"
name_of Compare = codes "compare"
name_of Survey = codes "survey"
name_of Found = codes "found"
name_of Take = codes "take"
name_of Audit = codes "audit"
name_of Close = codes "close"
name_of Size = codes "size"
name_of Mark = codes "mark"
name_of Free = codes "free"
name_of Add = codes "add"
name_of Load = codes "load"
name_of Grow = codes "grow"
name_of Settle = codes "settle"
name_of Point = codes "point"
name_of Sum = codes "sum"
name_of Mean = codes "mean"
name_of Busiest = codes "busiest"
name_of Trend = codes "trend"
name_of Cells = codes "cells"
name_of Line = codes "line"
name_of Ring = codes "ring"
name_of Put = codes "put"
name_of Welcome = codes "welcome"
name_of Begin = codes "begin"
name_of Next = codes "next"
name_of End = codes "end"
name_of Replied = codes "replied"
name_of Help = codes "help"

abbrev pub verb_of : List ℕ → Option Verb
verb_of w = find (λ v. bytes_eq (name_of v) w) verbs
