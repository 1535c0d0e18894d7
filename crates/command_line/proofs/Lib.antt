mod Asking
mod Numbers
mod Tables
