-- One name for every definition that stays shut: a closed case computes under `unfolding whole`.
-- Assumes nothing.
use Rattle.model.specs.Map.{overlaps, may, granted, lowest}
use Rattle.model.specs.Refusals.{zero_domain, unused_zero, clear, domain_verdict, domains_verdict, channels_good, map_verdict, accepts}
use Rattle.model.specs.Sheet.{domain_records, channel_records, sheet_bytes, channels_read, domains_read, sheet_read}
use Rattle.model.specs.States.{seated, start, any_ready, active_good, box_good, context_good, zeros, is_blank, contexts_good, well_formed, first_ready, switch}
use Rattle.model.specs.Table.{table, row_of}
use Rattle.model.specs.Instructions.{work, checked, worked, decode, plan, peek, carry}
use Rattle.model.specs.Events.{sent, perform, step, tick, word_in, event, run, event_read, trace, batch}
use Rattle.model.specs.Calls.{named, lent_verdict, node_verdict, question, view, reader, writer, starter, stepper, player, batcher}
use Rattle.model.specs.Program.{figures, reason_text, answer_text, event_line, event_lines, active_line, refusal_line, refusal_at_line, of_trace, transcript}

unfoldable pub whole : Unit {0}
unfolding overlaps may granted lowest zero_domain unused_zero clear domain_verdict domains_verdict channels_good map_verdict accepts domain_records channel_records sheet_bytes channels_read domains_read sheet_read seated start any_ready active_good box_good context_good zeros is_blank contexts_good well_formed first_ready switch table row_of work checked worked decode plan peek carry sent perform step tick word_in event run event_read trace batch named lent_verdict node_verdict question view reader writer starter stepper player batcher figures reason_text answer_text event_line event_lines active_line refusal_line refusal_at_line of_trace transcript
whole = tt
