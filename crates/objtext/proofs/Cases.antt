-- Case 1 of document 01 by computation: its object's text, and its text read back. Assumes nothing.
use mathlib.Core.Path.{◌≡◌, refl}
use mathlib.Core.List.{List, [], ◌∷◌, ◌++◌}
use mathlib.Core.Option.{some}
use Prim.Native.Nat.{ℕ}
use Prim.Native.String.{String}
use Rattle.base.specs.Numbers.{bytes_of}
use Rattle.base.specs.Text.{bytes}
use Rattle.objtext.specs.Object.{Segment, program, cells, newline, object_text, hex_digit}
use Rattle.objtext.specs.Reader.{read_object, read_data, at_last, on_segment, push, is_last, is_data, is_program, data_at, program_at, after_data, after_program, byte_of, two_of, digit_of, is_content_frame}

abbrev line_of : String → List ℕ
line_of s = bytes s ++ (newline ∷ [])

abbrev pub case-1-text : List ℕ
case-1-text =
    line_of "0100000E" ++ (line_of "000000000E5810E0105A10E0145010E0100A00"
    ++ (line_of "0201001800100014" ++ (line_of "000100001000000000000000000000000000000000" ++ (line_of "00010010080000000500000003" ++ line_of "FF"))))

abbrev pub case-1 : List Segment
case-1 =
    program (0x58 ∷ 0x10 ∷ 0xe0 ∷ 0x10 ∷ 0x5a ∷ 0x10 ∷ 0xe0 ∷ 0x14 ∷ 0x50 ∷ 0x10 ∷ 0xe0 ∷ 0x10 ∷ 0x0a ∷ 0 ∷ [])
    ∷ cells (0 ∷ 0 ∷ 0 ∷ 0 ∷ 0 ∷ 0 ∷ 0 ∷ 0 ∷ 0 ∷ 0 ∷ 0 ∷ 0 ∷ 0 ∷ 0 ∷ 0 ∷ 0 ∷ 0 ∷ 0 ∷ 0 ∷ 5 ∷ 0 ∷ 0 ∷ 0 ∷ 3 ∷ []) 16 20 ∷ []

pub case-1-written : object_text case-1 ≡ case-1-text
unfolding object_text hex_digit bytes_of
case-1-written = refl

pub case-1-read : read_object case-1-text ≡ some case-1
unfolding read_object read_data at_last on_segment push is_last is_data is_program data_at program_at after_data after_program byte_of two_of digit_of is_content_frame
case-1-read = refl
