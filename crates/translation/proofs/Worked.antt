-- Document 01, "Cases and slips": the tables of `specs/Worked` hold, by computing the definition.
use Rattle.std.specs.Prelude.{◌≡◌, refl}
use Rattle.base.specs.Text.{same_bytes}
use Rattle.base.specs.Runs.{run_len}
use Rattle.base.specs.Numbers.{number_from, bytes_of}
use Rattle.base.specs.Walk.{walk, fold}
use Rattle.token.specs.Text as X
use Rattle.token.specs.Text.{digit_of}
use Rattle.grammar.specs.Reader as R
use Rattle.grammar.specs.Grammar as G
use Rattle.grammar.proofs.Theorems.{grammatical}
use Rattle.grammar.specs.Events as Ev
use Rattle.grammar.specs.Places as Pl
use Rattle.scopes.specs.Broken as B
use Rattle.scopes.specs.Search as S
use Rattle.scopes.specs.Names as N
use Rattle.scopes.specs.Labels as L
use Rattle.static_rules.specs.Registers as Q
use Rattle.static_rules.specs.Functions as F
use Rattle.static_rules.specs.Meanings as M
use Rattle.static_rules.specs.Rules as J
use Rattle.static_rules.specs.Kinds as K
use Rattle.objtext.specs.Object as O
use Rattle.objtext.specs.Object.{Segment, program, cells, object_text}
use Rattle.translation.specs.Instructions as I
use Rattle.translation.specs.Core as C
use Rattle.translation.specs.Code as D
use Rattle.translation.specs.Layout as Y
use Rattle.translation.specs.Bytes as E
use Rattle.translation.specs.Image as H
use Rattle.translation.specs.Translate as T
use Rattle.translation.specs.Translate.{Answer, accepted, refused, number_of, spot_of, translate}
use Rattle.translation.specs.Worked.{Hold, cases, limits, slips, traps, functions, choices, lines, answered, numbered}

worked : Hold cases × Hold limits × Hold slips × Hold traps × Hold functions × (answered lines ≡ numbered lines) × Hold choices
unfolding same_bytes run_len number_from bytes_of walk fold X.word_kind X.comment X.name_or_word X.number X.begins X.sign X.lexeme X.next_step X.next_token X.read_from
    X.tokens_of R.and_then R.look R.next R.want R.want_one G.designator_of G.operand G.condition G.terms G.sign_of G.assigned_to G.assignment_of G.numbers G.cell_item G.register_item
    G.list_of G.type_of G.cells_of G.after_type G.declaration G.arguments G.target_of G.assign_or G.after_name G.statement_of G.items_of G.choices_of G.body_of G.if_of G.construct_of G.statement G.program grammatical
    Ev.each Ev.events_item Ev.events_declaration Ev.events_sign Ev.events_chain Ev.events_arguments Ev.events_statement Pl.along B.rule B.◌⊕◌ S.in_block S.find N.note_found N.use_name
    N.declare_name N.declare_names N.use_names N.name_event L.note_label L.set_label L.label_event Q.flags Q.has Q.add_register Q.union Q.spares F.function_at M.write M.write_text
    M.call_writes M.target_writes M.open_base M.add_cell M.mean_event J.register_rule J.zero_rule J.write_rule J.index_rules J.subscript_rules J.place_rules J.no_byte J.operand_rules
    J.only_register J.shift_rules J.no_short J.product_rules J.term_rules J.target_rules J.control_rules J.condition_rules J.call_rules J.written_rules J.byte_rules J.cell_rules J.plain_rules J.argument_rules J.taken_rules J.value_rules
    J.base_rules K.rule_event I.opcode I.shift_code I.false_mask C.use_of C.shift_by C.term_of C.chain_of C.to_register C.assignment_of C.compare_with C.test_of C.function_code C.core_statement D.size_of
    D.own D.mark_at D.table D.code D.instructions Y.value_bytes Y.place_cell Y.place_cells Y.offset_of Y.literals_from Y.layout E.encode E.encode_all H.fill H.words H.first_data
    H.data_of H.segments T.named T.labelled T.meant T.make T.finish T.on_rules T.translated T.in_room translate O.hex_digit object_text
worked = (refl, refl, refl, refl, refl, refl, refl)

pub cases-hold : Hold cases
cases-hold = worked.0

pub limits-hold : Hold limits
limits-hold = worked.1

pub slips-hold : Hold slips
slips-hold = worked.2

pub traps-hold : Hold traps
traps-hold = worked.3

pub functions-hold : Hold functions
functions-hold = worked.4

pub lines-hold : answered lines ≡ numbered lines
lines-hold = worked.5

pub choices-hold : Hold choices
choices-hold = worked.6
