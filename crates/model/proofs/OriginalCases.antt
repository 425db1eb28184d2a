-- The journals of `specs/OriginalCases`, computed. Assumes nothing.
use mathlib.Core.Path.{refl}
use Rattle.sizes.specs.Ladder.{largest as largest_code, fan_out, bytes, smaller, larger}
use Rattle.model.specs.Ladder.{fan, frames, top, probes}
use Rattle.model.specs.Lists.{maximum, sum, all, first}
use Rattle.model.specs.Tree.{largest, words, merge, free_frames, opened, handed_on, store, remove, pick}
use Rattle.model.specs.TreeStore.{any_free, largest_fit, seed_from, used, act, tests, step}
use Rattle.model.specs.Rust.{word, element, position, max_of_all, map_collect, collect_from, for_each, while}
use Rattle.model.specs.StandIns.{divide, merge_pages}
use Rattle.model.specs.Original.{store_page_token_in_this_node, acquire_page_token_from_this_node, find_largest_page_size, initialize_children_if_needed, calculate_child_index, divide_page_token_if_necessary, try_to_merge_page_tokens, child_address_and_size, store_page_token, acquire_page_token, region_loop, add_memory_region, acquire_page, release_pages}
use Rattle.model.specs.AsOriginal.{original, originals, transcript}
use Rattle.model.specs.OriginalCases.{OriginalJournal, OriginalDrained, OriginalParts}

pub original-journal : OriginalJournal
unfolding largest_code fan_out fan frames top probes maximum sum all first largest words merge free_frames opened handed_on store remove pick any_free largest_fit seed_from used act tests step smaller larger bytes word element position max_of_all map_collect collect_from for_each while divide merge_pages store_page_token_in_this_node acquire_page_token_from_this_node find_largest_page_size initialize_children_if_needed calculate_child_index divide_page_token_if_necessary try_to_merge_page_tokens child_address_and_size store_page_token acquire_page_token region_loop add_memory_region acquire_page release_pages original originals transcript
original-journal = refl

pub original-drained : OriginalDrained
unfolding largest_code fan_out fan frames top probes maximum sum all first largest words merge free_frames opened handed_on store remove pick any_free largest_fit seed_from used act tests step smaller larger bytes word element position max_of_all map_collect collect_from for_each while divide merge_pages store_page_token_in_this_node acquire_page_token_from_this_node find_largest_page_size initialize_children_if_needed calculate_child_index divide_page_token_if_necessary try_to_merge_page_tokens child_address_and_size store_page_token acquire_page_token region_loop add_memory_region acquire_page release_pages original originals transcript
original-drained = refl

pub original-parts : OriginalParts
unfolding largest_code fan_out fan frames top probes maximum sum all first largest words merge free_frames opened handed_on store remove pick any_free largest_fit seed_from used act tests step smaller larger bytes word element position max_of_all map_collect collect_from for_each while divide merge_pages store_page_token_in_this_node acquire_page_token_from_this_node find_largest_page_size initialize_children_if_needed calculate_child_index divide_page_token_if_necessary try_to_merge_page_tokens child_address_and_size store_page_token acquire_page_token region_loop add_memory_region acquire_page release_pages original originals transcript
original-parts = refl
