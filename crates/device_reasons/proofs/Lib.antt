pub mod Reacting
