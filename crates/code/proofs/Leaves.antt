-- The assignment or use that is written after the tape of a tree.
use mathlib.Core.List.{List}
use Rattle.grammar.specs.Tree.{Statement, assign, call, apply, block, goto, null, if_then, if_else, while, for, choose, Body, declare, procedure, items, Items, ended, label, item, Choices, over, choice}
use Prim.Native.Nat.{ℕ}
use Rattle.static_rules.specs.Tables.{Tables}
use Rattle.emit.specs.declared.Writing.{Writing}
use Rattle.emit.specs.Events.{no_writing}
use Rattle.emit.specs.Along.{target_writing, control_writing}

module _ (f : Tables) (means under offsets : List ℕ) where
  unfoldable mutual
    pub leaves : Statement → Writing → Writing
    leaves (assign a) w = target_writing f.values f.found means under offsets a
    leaves (call n) w = w
    leaves (apply n a xs) w = no_writing
    leaves (block t b) w = leaves_body b w
    leaves (goto t n) w = w
    leaves null w = w
    leaves (if_then t c x) w = leaves x w
    leaves (if_else t c x e y) w = leaves y (leaves x w)
    leaves (while t c x) w = leaves x w
    leaves (for t a v l x) w = leaves x (control_writing f.found means a)
    leaves (choose t n xs) w = leaves_choices xs no_writing

    pub leaves_body : Body → Writing → Writing
    leaves_body (declare d b) w = leaves_body b w
    leaves_body (procedure n r x b) w = leaves_body b (leaves x w)
    leaves_body (items is) w = leaves_items is w

    pub leaves_items : Items → Writing → Writing
    leaves_items ended w = w
    leaves_items (label l is) w = leaves_items is w
    leaves_items (item x is) w = leaves_items is (leaves x w)

    pub leaves_choices : Choices → Writing → Writing
    leaves_choices over w = w
    leaves_choices (choice x xs) w = leaves_choices xs (leaves x w)
