-- The phrases of messages, with the numbers 0, 1 and so on; `%` stands for a number.
use Rattle.std.specs.Prelude.{ℕ, List, [], ◌∷◌}
use Rattle.base.specs.Text.{bytes}

-- what is refused, by the refusal's number; from 20 on what is told more closely
abbrev pub headlines : List (List ℕ)
headlines =
    []
    ∷ bytes "the source has more than 32,768 bytes"
    ∷ bytes "byte % is in no token"
    ∷ bytes "the number is out of range"
    ∷ bytes "no program goes on like this"
    ∷ bytes "more than 64 constructs inside each other"
    ∷ bytes "this name is not declared, or this label is not set"
    ∷ bytes "this is declared twice"
    ∷ bytes "this does not fit here"
    ∷ bytes "this register cannot stand here"
    ∷ bytes "a protected register is written here"
    ∷ bytes "the value is out of bounds"
    ∷ bytes "there is no room for this in its segment"
    ∷ bytes "too many names"
    ∷ bytes "the program has more than 4,096 bytes"
    ∷ bytes "there is no room for the literals"
    ∷ bytes "the object text has % bytes, more than there is room for"
    ∷ bytes "this is no object text"
    ∷ bytes "% is no condition code"
    ∷ bytes "there is too little storage"
    ∷ bytes "byte 13 (CR) is in no token"
    ∷ bytes "byte 9 (TAB) is in no token"
    ∷ bytes "byte 239 begins a byte-order mark and is in no token"
    ∷ bytes "byte % (a small letter) is in no token"
    ∷ bytes "this comment is not closed"
    ∷ bytes "the text ends before the program does"
    ∷ bytes "register % is protected here"
    ∷ bytes "the register below the target is protected here"
    ∷ []

-- what stands behind the carets
abbrev pub notes : List (List ℕ)
notes =
    []
    ∷ []
    ∷ []
    ∷ []
    ∷ bytes " the tokens up to this one begin no program"
    ∷ bytes " inside 64 others already"
    ∷ bytes " no block around it declares it before this place"
    ∷ bytes " the block has it already; the first 10 characters count"
    ∷ bytes " see `tautgaff help 8` for what fits where"
    ∷ bytes " 0 to 15; not 0 as base, return, index, shift or in CASE; a product needs an odd target"
    ∷ bytes " by this statement, call or base declaration"
    ∷ bytes " see `tautgaff help 11` for the bounds"
    ∷ bytes " a segment has 4,096 bytes; two base declarations are allowed"
    ∷ bytes " 256 names and 256 labels are allowed"
    ∷ []
    ∷ []
    ∷ []
    ∷ []
    ∷ []
    ∷ []
    ∷ bytes " lines are ended by byte 10 alone"
    ∷ bytes " only blanks and newlines stand between tokens"
    ∷ bytes " the text has to be saved without it"
    ∷ bytes " names and words are written in capitals"
    ∷ bytes " a comment runs to the next `;`"
    ∷ bytes " every block is ended by END, the program by @"
    ∷ bytes " the data base: cells without SEGMENT BASE belong to it"
    ∷ bytes " the program base: instructions are found by it"
    ∷ bytes " from 0 to 2147483647; after _, which is minus, to 2147483648; after # 32 bits"
    ∷ bytes " a product also writes the register below its target"
    ∷ bytes " a base or the return register of what is around this place"
    ∷ []

-- why a word of the command line is wrong
abbrev pub faults : List (List ℕ)
faults =
    []
    ∷ bytes "there is no such command"
    ∷ bytes "this command has no such option"
    ∷ bytes "there is one name too many"
    ∷ bytes "this is no number from 0 to 4294967295"
    ∷ bytes "the option needs a value"
    ∷ bytes "a name is missing"
    ∷ bytes "this is no value: decimal, with _ or - in front, or # and hexadecimal digits"
    ∷ bytes "this names no register: R0 to R9, RA to RF"
    ∷ bytes "there is no help on this: a command, or a number from 0 to 19"
    ∷ bytes "this names no register, and the text declares no cell of this name"
    ∷ bytes "this is no element: the number is a byte offset in an array, a multiple of its element size"
    ∷ bytes "this is no value for a SHORT cell: -32768 to 65535"
    ∷ bytes "this is no value for a BYTE or CHARACTER cell: 0 to 255"
    ∷ []
