-- Names every definition that a computed row looks through, so that a row says `unfolding computes` alone.
use Prim.Native.Nat.{ℕ}
use Rattle.ranges.specs.Look.{all_below, some_below, count_below, when_found, first_below, last_below, least_below, sum_below}
use Rattle.octets.specs.Number.{number, digits}
use Rattle.octets.specs.Units.{part, put, unit, unit_put}
use Rattle.ranges.specs.Update.{at}
use Rattle.octets.specs.Xor.{◌⊕◌, xor_below}
use Rattle.layout.specs.Collection.{collection_of, bytes_of_collection, collection_at}
use Rattle.layout.specs.Images.{chips_length, records_length, slots_length, lengths, slot_at}
use Rattle.layout.specs.Layout.{none, limits}
use Rattle.layout.specs.Page.{blank_tail, page_of, bytes_of_page, page_at}
use Rattle.layout.specs.Record.{bit, row, six_from, record_of, bytes_of_record, empty_record, record_at}
use Rattle.layout.specs.Rotation.{parity_chip, member_chip, member_on}
use Rattle.steps.specs.Steps.{apply_all, and_then, counted, counted_all, steps_below, then_below}
use Rattle.steps.specs.Store.{programmed, erased, recorded, apply}
use Rattle.rules.specs.Blocks.{clean_block, full_block, ordered_block, lowest_clean_block}
use Rattle.rules.specs.Calls.{run, format_call, open_call, write_call, commit_call, collect_call, read_call, add_call, find_call}
use Rattle.rules.specs.Collect.{collectable, named_count, victim_of, copy_from, copy_steps, copy_feed, collect_block, collect_steps}
use Rattle.rules.specs.Costs.{set_bits, cost_of, cheapest}
use Rattle.rules.specs.Parity.{new_parity, committed, commit_at}
use Rattle.rules.specs.Commit.{commit_steps}
use Rattle.rules.specs.Format.{format_steps}
use Rattle.rules.specs.Names.{main_number, side_number, role_of, kind_on, member_byte, names, named}
use Rattle.rules.specs.Open.{repointed, due, move_from, move_steps, finish_of, finish_steps, open_steps}
use Rattle.rules.specs.Place.{open_block, lowest_clean_page, place_of}
use Rattle.rules.specs.Room.{room_steps, at_place, placed}
use Rattle.rules.specs.Fetch.{itself, gathered, under_parity, others_under_parity, others_inside, through_partial, through_parity, parity_anew, fetch_role, fetch_in, members_feed}
use Rattle.rules.specs.Read.{fetch_member, fetch}
use Rattle.rules.specs.Origins.{greatest_origin}
use Rattle.rules.specs.Tickets.{ticket_of, ticket_sound}
use Rattle.rules.specs.Log.{bytes_at, log_end, log_length, log_sound, log_open, latest, standing, log_pages, log_origin, with_ticket, log_reads, add_steps}
use Rattle.rules.specs.Refusals.{buffers_rows, images_rows, read_rows, settled_rows, write_rows, commit_rows, collect_rows, find_rows, add_rows}
use Rattle.rules.specs.Sound.{member_sound, record_sound, collection_sound, records_sound, stamped_stripe, phase1_sound, twin, phase2_sound, chip_sound, spares_sound}
use Rattle.rules.specs.Partial.{lowest_free_slot, new_partial, written, slot_steps, write_at}
use Rattle.rules.specs.Write.{commit_owed, owed_steps, write_member, write_steps}

unfoldable pub computes : ℕ
unfolding all_below some_below count_below when_found first_below last_below least_below sum_below number digits part put unit unit_put at ◌⊕◌ xor_below collection_of bytes_of_collection collection_at chips_length records_length slots_length lengths slot_at none limits blank_tail page_of bytes_of_page page_at bit row six_from record_of bytes_of_record empty_record record_at parity_chip member_chip member_on apply_all and_then counted counted_all steps_below then_below programmed erased recorded apply clean_block full_block ordered_block lowest_clean_block run format_call open_call write_call commit_call collect_call read_call add_call find_call collectable named_count victim_of copy_from copy_steps copy_feed collect_block collect_steps set_bits cost_of cheapest new_parity committed commit_at commit_steps format_steps itself gathered main_number side_number role_of kind_on member_byte names named repointed due move_from move_steps finish_of finish_steps open_steps open_block lowest_clean_page place_of room_steps at_place placed under_parity others_under_parity others_inside through_partial through_parity parity_anew fetch_role fetch_in members_feed fetch_member fetch ticket_of ticket_sound bytes_at log_end log_length log_sound log_open latest standing log_pages greatest_origin log_origin with_ticket log_reads add_steps buffers_rows images_rows read_rows settled_rows write_rows commit_rows collect_rows find_rows add_rows member_sound record_sound collection_sound records_sound stamped_stripe phase1_sound twin phase2_sound chip_sound spares_sound commit_owed owed_steps lowest_free_slot new_partial written slot_steps write_at write_member write_steps
computes = 0
