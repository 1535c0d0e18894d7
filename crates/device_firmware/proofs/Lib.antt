pub mod AfterEvent
