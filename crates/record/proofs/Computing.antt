-- What a closed computation goes through in this crate: `unfolding record_open` opens all of it, so that no crate above names what a request adds.
-- Assumes nothing.
use Rattle.record.specs.Header.{session_of, partial_of, length_at, length_of, number_of, partial_for, head_of}
use Rattle.record.specs.Nonce.{nonce_of, spread}
use Rattle.record.specs.Read.{record_rows, place_rows}
use Rattle.record.specs.Setting.{auth_only, number_first, has_partial, bad_mac, bad_width, same_setting, is_zero_setting, bad_setting, open_rows, window_width}
use Rattle.record.specs.Shape.{head_len, mac_len, inner_len, most_length, least, total_of, start_of, text_end, assoc_end, plain_len, data_place, data_len, inner_bad}
use Rattle.record.specs.Write.{body_len, assoc_end_for, form_rows, room_rows, body_of, front_of}

-- settings
unfoldable pub setting_open : Unit {0}
unfolding auth_only number_first has_partial bad_mac bad_width same_setting is_zero_setting bad_setting open_rows window_width
setting_open = tt

-- the checks of a record
unfoldable pub reading_open : Unit {0}
unfolding session_of partial_of length_at length_of number_of partial_for record_rows place_rows head_len mac_len inner_len least total_of
reading_open = tt

-- its parts, read and written
unfoldable pub parts_open : Unit {0}
unfolding start_of text_end assoc_end plain_len data_place data_len inner_bad nonce_of spread head_of most_length body_len assoc_end_for form_rows room_rows body_of front_of
parts_open = tt

-- all of these
unfoldable pub record_open : Unit {0}
unfolding setting_open reading_open parts_open
record_open = tt
