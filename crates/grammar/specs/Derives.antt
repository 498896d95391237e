-- Document 01, "Grammar", as it stands there: for each rule, and each tree that it makes, which tokens are exactly that tree. Nothing here reads or chooses; that the
-- readers of `Grammar` give what is derived here, and nothing else, is shown in proofs/.
use Rattle.std.specs.Prelude.{◌≡◌, ◌⊎◌, List, [], ◌∷◌, Bool, true, false, ℕ, zero, suc, ◌+◌, ◌≤◌, ◌<◌, max, get_or}
use Rattle.std.proofs.Math.Option.{Option, none, some}
use Rattle.base.specs.Lists.{member}
use Rattle.token.specs.Kinds as K
use Rattle.grammar.specs.Tree.{Designator, Operand, number, place, Sign, plain, abs, neg, neg_abs, Term, Assignment, Condition, compared, bare, Width, full, short, byte, Register, Item, Declaration, registers, cells, base, Statement, assign, call, apply, block, goto, null, if_then, if_else, while, for, choose, Body, declare, procedure, items, Items, ended, label, item, Choices, over, choice}
use Rattle.grammar.specs.Grammar.{relations, operators}

-- what stands from one token up to, but not including, another
abbrev pub Part : Type 1
Part = (from to : ℕ) → Type 0

-- nothing stands there
abbrev pub end : Part
end i j = i ≡ j

-- no tokens are this
abbrev pub never : Part
never i j = ⊥

infixr 25 ◌⟫◌
-- one part and then another
abbrev pub ◌⟫◌ : Part → Part → Part
◌⟫◌ p q i j = (m : ℕ) × p i m × q m j

-- a part, if what the paper asks of it holds
abbrev pub only : Bool → Part → Part
only holds p i j = (holds ≡ true) × p i j

-- "simple = assignment, name (a call), block, GOTO name, NULL." Document 02, 1/13: "A use is a simple statement"; 3/13: "CASE … as a simple statement".
abbrev pub simple : Statement → Bool
simple (assign a) = true
simple (call n) = true
simple (apply n a xs) = true
simple (block t b) = true
simple (goto t n) = true
simple null = true
simple (if_then t c s) = false
simple (if_else t c s e u) = false
simple (while t c s) = false
simple (for t a v l s) = false
simple (choose t n xs) = true

abbrev pub integer_or_logical : List ℕ
integer_or_logical = K.INTEGER ∷ K.LOGICAL ∷ []

module _ (kinds : List ℕ) where
  infixr 25 ◌▸◌
  -- a token of kind k, then a part
  abbrev pub ◌▸◌ : (k : ℕ) → Part → Part
  ◌▸◌ k p i j = (get_or kinds i 0 ≡ k) × p (i + 1) j

  infixr 25 ◌#◌▸◌
  -- token number n, of kind k, then a part
  abbrev pub ◌#◌▸◌ : (k n : ℕ) → Part → Part
  ◌#◌▸◌ k n p i j = (n ≡ i) × (get_or kinds i 0 ≡ k) × p (i + 1) j

  infixr 25 ◌∋▸◌
  -- a token of one of the kinds ks, then a part
  abbrev pub ◌∋▸◌ : (ks : List ℕ) → Part → Part
  ◌∋▸◌ ks p i j = (member (get_or kinds i 0) ks ≡ true) × p (i + 1) j

  infixr 25 ◌∋◌▸◌
  -- token number n, of one of the kinds ks, then a part
  abbrev pub ◌∋◌▸◌ : (ks : List ℕ) (n : ℕ) → Part → Part
  ◌∋◌▸◌ ks n p i j = (n ≡ i) × (member (get_or kinds i 0) ks ≡ true) × p (i + 1) j

  -- ── "designator = name, name(number), name(name), name(number)(name). operand = number or designator." ──

  abbrev pub is_shape : (name : ℕ) (subscript index : Option ℕ) → Part
  is_shape n none none = K.NAME # n ▸ end
  is_shape n (some s) none = K.NAME # n ▸ K.OPEN ▸ K.NUMBER # s ▸ K.CLOSE ▸ end
  is_shape n none (some x) = K.NAME # n ▸ K.OPEN ▸ K.NAME # x ▸ K.CLOSE ▸ end
  is_shape n (some s) (some x) = K.NAME # n ▸ K.OPEN ▸ K.NUMBER # s ▸ K.CLOSE ▸ K.OPEN ▸ K.NAME # x ▸ K.CLOSE ▸ end

  unfoldable pub is_designator : Designator → Part
  is_designator d = is_shape d.name d.subscript d.index

  unfoldable pub is_operand : Operand → Part
  is_operand (number t) = K.NUMBER # t ▸ end
  is_operand (place d) = is_designator d

  -- ── "condition = name relation operand, a bare relation, or OVERFLOW." ──

  unfoldable pub is_condition : Condition → Part
  is_condition (compared n r a) = K.NAME # n ▸ relations ∋ r ▸ is_operand a
  is_condition (bare r) = (K.OVERFLOW ∷ relations) ∋ r ▸ end

  -- ── "assignment = designator := [ABS, NEG or NEG ABS] operand {operator operand}." ──

  unfoldable pub is_sign : Sign → Part
  is_sign plain = end
  is_sign (abs t) = K.ABS # t ▸ end
  is_sign (neg t) = K.NEG # t ▸ end
  is_sign (neg_abs t) = K.NEG # t ▸ K.ABS ▸ end

  -- "{operator operand}"
  unfoldable pub are_terms : List Term → Part
  are_terms [] = end
  are_terms (t ∷ ts) = operators ∋ t.operator ▸ is_operand t.operand ⟫ are_terms ts

  unfoldable pub is_assignment : Assignment → Part
  is_assignment a = is_designator a.target ⟫ K.BECOMES ▸ is_sign a.sign ⟫ is_operand a.first ⟫ are_terms a.rest

  -- ── "declaration = (INTEGER or LOGICAL) REGISTER name(number) {, name(number)}; or [ARRAY (number)] type item {, item}; or PROCEDURE name(name) ;
  -- statement; or SEGMENT BASE name. type = INTEGER, LOGICAL or SHORT INTEGER; item = name {(number)}." Document 02, 1/13: "BYTE and CHARACTER cells". ──

  -- "{(number)}"
  unfoldable pub are_numbers : List ℕ → Part
  are_numbers [] = end
  are_numbers (t ∷ ts) = K.OPEN ▸ K.NUMBER # t ▸ K.CLOSE ▸ are_numbers ts

  unfoldable pub is_item : Item → Part
  is_item x = K.NAME # x.name ▸ are_numbers x.numbers

  -- "name(number)"
  unfoldable pub is_register : Register → Part
  is_register r = K.NAME # r.name ▸ K.OPEN ▸ K.NUMBER # r.number ▸ K.CLOSE ▸ end

  -- "{, item}"
  unfoldable pub are_more : {A : Type 0} → (A → Part) → List A → Part
  are_more is_one [] = end
  are_more is_one (x ∷ xs) = K.COMMA ▸ is_one x ⟫ are_more is_one xs

  -- "item {, item}"
  unfoldable pub are_some : {A : Type 0} → (A → Part) → List A → Part
  are_some is_one [] = never
  are_some is_one (x ∷ xs) = is_one x ⟫ are_more is_one xs

  unfoldable pub is_type : Width → Part
  is_type full = integer_or_logical ∋▸ end
  is_type short = K.SHORT ▸ K.INTEGER ▸ end
  is_type (byte false) = K.BYTE ▸ end
  is_type (byte true) = K.CHARACTER ▸ end

  -- all but "PROCEDURE name(name) ; statement", which stands with the blocks
  unfoldable pub is_declaration : Declaration → Part
  is_declaration (registers rs) = integer_or_logical ∋▸ K.REGISTER ▸ are_some is_register rs
  is_declaration (cells none w xs) = is_type w ⟫ are_some is_item xs
  is_declaration (cells (some c) w xs) = K.ARRAY ▸ K.OPEN ▸ K.NUMBER # c ▸ K.CLOSE ▸ is_type w ⟫ are_some is_item xs
  is_declaration (base n) = K.SEGMENT ▸ K.BASE ▸ K.NAME # n ▸ end

  -- ── "simple = assignment, name (a call), block, GOTO name, NULL. statement = simple; IF condition THEN statement; IF condition THEN simple ELSE
  -- statement; WHILE condition DO statement; FOR assignment STEP number UNTIL operand DO statement." Document 02, 3/13: "CASE register OF BEGIN {statement ;} END". ──

  -- "PROCEDURE name(name) ; statement"
  abbrev pub is_procedure : (name return : ℕ) (is_its : Part) → Part
  is_procedure n r is_its = K.PROCEDURE ▸ K.NAME # n ▸ K.OPEN ▸ K.NAME # r ▸ K.CLOSE ▸ K.SEMICOLON ▸ is_its

  -- document 02, 1/13: "each argument in its own parentheses"; an argument is an operand
  unfoldable pub are_arguments : List Operand → Part
  are_arguments [] = end
  are_arguments (a ∷ xs) = K.OPEN ▸ is_operand a ⟫ K.CLOSE ▸ are_arguments xs

  unfoldable mutual
    pub is_statement : Statement → Part
    is_statement (assign a) = is_assignment a
    is_statement (call n) = K.NAME # n ▸ end
    is_statement (apply n a xs) = K.NAME # n ▸ are_arguments (a ∷ xs)
    is_statement (block t b) = K.BEGIN # t ▸ is_body b
    is_statement (goto t n) = K.GOTO # t ▸ K.NAME # n ▸ end
    is_statement null = K.NULL ▸ end
    is_statement (if_then t c s) = K.IF # t ▸ is_condition c ⟫ K.THEN ▸ is_statement s
    is_statement (if_else t c s e u) = K.IF # t ▸ is_condition c ⟫ K.THEN ▸ only (simple s) (is_statement s) ⟫ K.ELSE # e ▸ is_statement u
    is_statement (while t c s) = K.WHILE # t ▸ is_condition c ⟫ K.DO ▸ is_statement s
    is_statement (for t a v l s) = K.FOR # t ▸ is_assignment a ⟫ K.STEP ▸ K.NUMBER # v ▸ K.UNTIL ▸ is_operand l ⟫ K.DO ▸ is_statement s
    is_statement (choose t n xs) = K.CASE # t ▸ K.NAME # n ▸ K.OF ▸ K.BEGIN ▸ are_choices xs

    -- ── "block = BEGIN {declaration ;} {statement ; or name :} END", what follows BEGIN ──

    pub is_body : Body → Part
    is_body (declare d b) = is_declaration d ⟫ K.SEMICOLON ▸ is_body b
    is_body (procedure n r s b) = is_procedure n r (is_statement s) ⟫ K.SEMICOLON ▸ is_body b
    is_body (items xs) = is_items xs

    pub is_items : Items → Part
    is_items ended = K.END ▸ end
    is_items (label n xs) = K.NAME # n ▸ K.COLON ▸ is_items xs
    is_items (item s xs) = is_statement s ⟫ K.SEMICOLON ▸ is_items xs

    -- "{statement ;} END"
    pub are_choices : Choices → Part
    are_choices over = K.END ▸ end
    are_choices (choice s xs) = is_statement s ⟫ K.SEMICOLON ▸ are_choices xs

  -- ── "program = block @." ──

  -- a statement that is a block
  abbrev pub is_block : Statement → Part
  is_block x i j = ((t : ℕ) × (b : Body) × (x ≡ block t b)) × is_statement x i j

  unfoldable pub is_program : Statement → Part
  is_program x = is_block x ⟫ K.AT ▸ end

-- ── "BEGIN, IF, WHILE, FOR or PROCEDURE inside … such constructs": how many constructs stand, one inside the other. Document 02, 3/13: CASE is "one nesting level" ──

unfoldable mutual
  pub nesting_of : Statement → ℕ
  nesting_of (assign a) = 0
  nesting_of (call n) = 0
  nesting_of (apply n a xs) = 0
  nesting_of (block t b) = suc (body_nesting b)
  nesting_of (goto t n) = 0
  nesting_of null = 0
  nesting_of (if_then t c s) = suc (nesting_of s)
  nesting_of (if_else t c s e u) = suc (max (nesting_of s) (nesting_of u))
  nesting_of (while t c s) = suc (nesting_of s)
  nesting_of (for t a v l s) = suc (nesting_of s)
  nesting_of (choose t n xs) = suc (choices_nesting xs)

  pub body_nesting : Body → ℕ
  body_nesting (declare d b) = body_nesting b
  body_nesting (procedure n r s b) = max (suc (nesting_of s)) (body_nesting b)
  body_nesting (items xs) = items_nesting xs

  pub items_nesting : Items → ℕ
  items_nesting ended = 0
  items_nesting (label n xs) = items_nesting xs
  items_nesting (item s xs) = max (nesting_of s) (items_nesting xs)

  pub choices_nesting : Choices → ℕ
  choices_nesting over = 0
  choices_nesting (choice s xs) = max (nesting_of s) (choices_nesting xs)

unfoldable mutual
  -- the construct of a statement that token t opens stands inside n constructs of it; a PROCEDURE stands directly before its name
  pub Inside : Statement → (n t : ℕ) → Type 0
  Inside (assign a) n t = ⊥
  Inside (call a) n t = ⊥
  Inside (apply a b xs) n t = ⊥
  Inside (block a b) zero t = t ≡ a
  Inside (block a b) (suc n) t = InsideBody b n t
  Inside (goto a l) n t = ⊥
  Inside null n t = ⊥
  Inside (if_then a c s) zero t = t ≡ a
  Inside (if_then a c s) (suc n) t = Inside s n t
  Inside (if_else a c s e u) zero t = t ≡ a
  Inside (if_else a c s e u) (suc n) t = Inside s n t ⊎ Inside u n t
  Inside (while a c s) zero t = t ≡ a
  Inside (while a c s) (suc n) t = Inside s n t
  Inside (for a f v l s) zero t = t ≡ a
  Inside (for a f v l s) (suc n) t = Inside s n t
  Inside (choose a r xs) zero t = t ≡ a
  Inside (choose a r xs) (suc n) t = InsideChoices xs n t

  pub InsideBody : Body → (n t : ℕ) → Type 0
  InsideBody (declare d b) n t = InsideBody b n t
  InsideBody (procedure a r s b) zero t = (t + 1 ≡ a) ⊎ InsideBody b zero t
  InsideBody (procedure a r s b) (suc n) t = Inside s n t ⊎ InsideBody b (suc n) t
  InsideBody (items xs) n t = InsideItems xs n t

  pub InsideItems : Items → (n t : ℕ) → Type 0
  InsideItems ended n t = ⊥
  InsideItems (label a xs) n t = InsideItems xs n t
  InsideItems (item s xs) n t = Inside s n t ⊎ InsideItems xs n t

  pub InsideChoices : Choices → (n t : ℕ) → Type 0
  InsideChoices over n t = ⊥
  InsideChoices (choice s xs) n t = Inside s n t ⊎ InsideChoices xs n t

-- what is derived, with at most so many constructs one inside the other
abbrev pub within : (its most : ℕ) → Part → Part
within its most p i j = (its ≤ most) × p i j

abbrev pub is_program_within : ℕ → List ℕ → Statement → Part
is_program_within most kinds x = within (nesting_of x) most (is_program kinds x)

-- ── "no program begins with the tokens up to here" ──

-- the tokens before number n are of the same kinds
pub record SameBefore (n : ℕ) (kinds others : List ℕ) : Type 0 where
  pub same : (t : ℕ) → t < n → get_or others t 0 ≡ get_or kinds t 0

-- the tokens from i on and before number n begin something of this rule: with some tokens after them it stands there, and ends no sooner than they do
pub record Begins {A : Type 0} (is : List ℕ → A → Part) (kinds : List ℕ) (i n : ℕ) : Type 0 where
  pub others : List ℕ
  pub tree : A
  pub to : ℕ
  pub same : SameBefore n kinds others
  pub reach : n ≤ to
  pub derived : is others tree i to

-- "BEGIN, IF, WHILE, FOR or PROCEDURE", and CASE
abbrev pub constructs : List ℕ
constructs = K.BEGIN ∷ K.IF ∷ K.WHILE ∷ K.FOR ∷ K.PROCEDURE ∷ K.CASE ∷ []
